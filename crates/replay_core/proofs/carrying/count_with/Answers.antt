use Rattle.std.proofs.Common.{◌≡◌, ◌∙◌, ◌+◌, ◌-◌, ℕ, Bool, true, false, if◌then◌else◌, ap, refl, arith}
use Rattle.std.specs.Prelude.{is_some}
use native.Mathlib.Numerals.{unary_clauses}
use Rattle.std.specs.FinMap.{get}
use Rattle.guest_space.specs.Mapping.{absent_count, mapped_run}
use Rattle.guest_space.specs.Memory.{Pages}
use Rattle.replay_core.proofs.carrying.count_with.Goals as goal

one_or_none : (there : Bool) → 1 - (if there then 0 + 1 else 0) ≡ (if there then 0 else 1)
one_or_none true = refl
one_or_none false = refl

one_absent : (pages : Pages) (number : ℕ) → 1 - mapped_run pages number 1 ≡ (if is_some (get pages number) then 0 else 1)
unfolding mapped_run
one_absent pages number = one_or_none (is_some (get pages number))

absent_next : (pages : Pages) (first done : ℕ) → absent_count pages first done + (if is_some (get pages (first + done)) then 0 else 1) ≡ absent_count pages first (done + 1)
unfolding absent_count
absent_next pages first done = simp unary_clauses refl

pub loop-done-init : goal.loop-done-init
unfolding absent_count
loop-done-init c = record { counted = refl; few = omega arith }

pub loop-done-preserved : goal.loop-done-preserved
loop-done-preserved c =
    let i = c.loop-done.invariant in
    let pages = c.args.space.now.pages in
    let at = c.args.first + c.loop-done.done in
    record {
      counted =
          ap (λ (n : ℕ). n + (1 - c.mapped.result)) i.counted
          ∙ ap (λ (n : ℕ). absent_count pages c.args.first c.loop-done.done + (1 - n)) c.mapped.ensures.value
          ∙ ap (λ (n : ℕ). absent_count pages c.args.first c.loop-done.done + n) (one_absent pages at)
          ∙ absent_next pages c.args.first c.loop-done.done;
      few = omega (arith, i.few);
    }
