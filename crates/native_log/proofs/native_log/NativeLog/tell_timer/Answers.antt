-- The timer has gone off, or waits.
use Rattle.std.proofs.Common.{◌≡◌, ◌∙◌, ℕ, List, refl, sym}
use Rattle.native_log.proofs.Telling.{on_ok, timer_told, timer_waits, waits}
use Rattle.native_log.specs.inside.Entries.{with_time}
use Rattle.native_log.proofs.native_log.NativeLog.tell_timer.Goals as goal

pub returns-then-has_come-clause-leads : goal.returns-then-has_come-clause-leads
returns-then-has_come-clause-leads c =
    on_ok c.keep_time.result _ _ (λ (is : c.keep_time.new.self ≡ with_time c.args.clock c.args.self.now). λ kernel became kept left sent next row.
    timer_told c.args.self.now c.keep_time.new.self c.args.clock kernel became kept left sent is c.requires.behind row) c.keep_time.ensures.kept

pub returns-clause-leads : goal.returns-clause-leads
returns-clause-leads c = λ kernel became kept left sent next row.
    timer_waits c.args.self.now c.args.self.now c.args.clock kernel became kept left sent refl
    (waits c.args.clock kernel.timer c.args.next next (sym c.has_come.ensures ∙ c.if-has_come.false)) row
