-- The event at the cursor is the first that is to come.
use Rattle.std.proofs.Common.{◌^◌, ℕ, ◌≤◌, Option, sym, subst, ◌∙◌}
use Rattle.std.specs.Prelude.{IfSome}
use Rattle.o32_machine.proofs.Coming.{next_is, next_is_early}
use Rattle.o32_machine.proofs.process.next_event.Goals as goal

pub returns-clause-time : goal.returns-clause-time
returns-clause-time c = c.next.ensures ∙ next_is c.args.schedule.now.events c.args.schedule.now.at

pub returns-clause-early : goal.returns-clause-early
returns-clause-early c =
    subst (λ (o : Option ℕ). IfSome o (λ (time : ℕ). time ≤ 2 ^ 60)) (sym c.next.ensures) (next_is_early c.args.schedule.now c.requires)
