use Rattle.std.proofs.Common.{◌≡◌, ◌/◌, ◌%◌, ◌-◌, ◌+◌, ℕ, arith, refl, sym, ap, subst, ◌∙◌}
use Rattle.std.specs.FinMap as map
use Rattle.raw_pages.specs.Pages.{shown_bytes}
use Rattle.mips_exec.specs.Going.{Goes}
use Rattle.mips_exec.specs.Step.{effect_at}
use Rattle.mips_exec.proofs.Going.{goes_as, goes_nowhere, goes_one, usable_in_page}
use Rattle.mips_exec.proofs.running.run_in_page.Goals as goal

pub loop-left-init : goal.loop-left-init
loop-left-init c = record {
  went = goes_as 0 (c.args.most - c.args.most) c.args.cpu.now c.args.space.now c.args.cpu.now c.args.space.now (omega arith) (goes_nowhere c.args.cpu.now c.args.space.now);
  few = omega arith;
}

pub step_in_page-requires-clause-aligned : goal.step_in_page-requires-clause-aligned
step_in_page-requires-clause-aligned c = ap (λ p. p.pc % 4) (sym c.cpu-in-loop-left.view_is) ∙ c.if-lies_in_page.ensures.aligned refl

pub step_in_page-requires-clause-usable : goal.step_in_page-requires-clause-usable
step_in_page-requires-clause-usable c =
    usable_in_page c.args.space.now.pages c.args.cpu.now.pc c.loop-left.cpu.pc
    (ap (λ p. p.pc / 4096) (sym c.cpu.view_is) ∙ sym (c.if-lies_in_page.ensures.page refl) ∙ ap (λ p. p.pc / 4096) c.cpu-in-loop-left.view_is) c.requires.usable

pub step_in_page-requires-clause-there : goal.step_in_page-requires-clause-there
step_in_page-requires-clause-there c =
    subst (λ (n : ℕ). shown_bytes (map.get c.args.space.now.pages n) ≡ c.args.page.now)
    (ap (λ p. p.pc / 4096) (sym c.cpu.view_is) ∙ sym (c.if-lies_in_page.ensures.page refl) ∙ ap (λ p. p.pc / 4096) c.cpu-in-loop-left.view_is) c.requires.there

pub loop-left-preserved : goal.loop-left-preserved
loop-left-preserved c = record {
  went = goes_as (c.args.most - c.loop-left.left + 1) (c.args.most - (c.loop-left.left - 1)) c.args.cpu.now c.args.space.now c.step_in_page.new.cpu c.args.space.now (omega arith)
      (goes_one (c.args.most - c.loop-left.left) c.args.cpu.now c.args.space.now c.loop-left.cpu c.args.space.now c.loop-left.invariant.went c.step_in_page.new.cpu c.args.space.now
      c.in-Went.ensures.told);
  few = omega arith;
}

pub returns-in-Stores-clause-went : goal.returns-in-Stores-clause-went
returns-in-Stores-clause-went c =
    subst (λ p. Goes (c.args.most - c.loop-left.left) c.args.cpu.now c.args.space.now p c.args.space.now) (sym c.in-Stores.ensures.told.0) c.loop-left.invariant.went

pub returns-in-Stores-clause-few : goal.returns-in-Stores-clause-few
returns-in-Stores-clause-few c = c.loop-left.invariant.few

pub returns-in-Stores-clause-next : goal.returns-in-Stores-clause-next
returns-in-Stores-clause-next c = (c.loop-left-test.true, ap (λ p. effect_at p c.args.space.now) c.in-Stores.ensures.told.0 ∙ c.in-Stores.ensures.told.1)

pub returns-in-Stays-clause-went : goal.returns-in-Stays-clause-went
returns-in-Stays-clause-went c =
    subst (λ p. Goes (c.args.most - c.loop-left.left) c.args.cpu.now c.args.space.now p c.args.space.now) (sym c.in-Stays.ensures.told) c.loop-left.invariant.went

pub returns-in-Stays-clause-few : goal.returns-in-Stays-clause-few
returns-in-Stays-clause-few c = c.loop-left.invariant.few

pub returns-else-lies_in_page-clause-went : goal.returns-else-lies_in_page-clause-went
returns-else-lies_in_page-clause-went c = c.loop-left.invariant.went

pub returns-else-lies_in_page-clause-few : goal.returns-else-lies_in_page-clause-few
returns-else-lies_in_page-clause-few c = c.loop-left.invariant.few

pub returns-after-loop-left-clause-went : goal.returns-after-loop-left-clause-went
returns-after-loop-left-clause-went c = c.loop-left.invariant.went

pub returns-after-loop-left-clause-few : goal.returns-after-loop-left-clause-few
returns-after-loop-left-clause-few c = c.loop-left.invariant.few
