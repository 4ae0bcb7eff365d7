use Rattle.std.proofs.Common.{◌≡◌, ◌≤◌, ◌+◌, ◌-◌, ℕ, sym, ap, subst, refl, ◌∙◌, arith, inl, inr}
use Rattle.std.specs.Option.{unwrap_or}
use Rattle.std.specs.FinMap.{get}
use Rattle.guest_space.specs.Mapping.{with_zeros}
use Rattle.std.specs.Prelude.{Bool, true, Some, Result, Ok, Err, IsErrAnd}
use Rattle.guest_space.specs.declared.access.MapError.{MapError}
use Rattle.guest_space.specs.declared.access.MapError.TheVariants.{NoMemory}
use Rattle.guest_space.specs.Memory.{Pages}
use Rattle.guest_space.specs.Places.{IsGreatestPlace}
use Rattle.guest_space.specs.Remapping.{Cut, Grown, Moved, HasNoPlace, IsRemapAnswer, MayGrow, PassesLimit}
use Rattle.guest_space.proofs.Ranges.{protection-looked, protection-bits, apart-runs}
use Rattle.guest_space.proofs.resize.resize.Goals as goal

pub map_zeros-requires-clause-protection : goal.map_zeros-requires-clause-protection
map_zeros-requires-clause-protection c =
    let looked = c.unwrap_or-protection.ensures ∙ ap (λ o. unwrap_or o 0) c.prot.ensures ∙ protection-looked (get c.args.pages.now (c.args.first + c.args.old - 1)) in
    subst (λ (n : ℕ). n ≤ 7) (sym looked) (protection-bits c.args.pages.now (c.args.first + c.args.old - 1) _ c.requires.valid refl)

pub move_pages-requires-clause-apart : goal.move_pages-requires-clause-apart
move_pages-requires-clause-apart c =
    elim (apart-runs c.args.pages.now c.args.first c.args.old c.in-Some.to c.args.new c.requires.mapped c.in-Some.ensures.0.free c.requires.some_old c.requires.some_new) [
      | inl before ↦ inl before
      | inr after ↦ inr (omega (arith, c.if-new-old.false))
    ]

pub returns-then-new-old-clause-answer : goal.returns-then-new-old-clause-answer
returns-then-new-old-clause-answer c =
    (λ p. absurd (omega (arith, p.0, c.if-new-old.true)), Cut c.if-new-old.true refl c.unmap_pages.ensures.changed)

pub returns-then-passes_limit-clause-answer : goal.returns-then-passes_limit-clause-answer
returns-then-passes_limit-clause-answer c = ((c.if-new-old.false, c.passes_limit.ensures.0 c.if-passes_limit.true), refl)

pub returns-then-may_grow-clause-answer : goal.returns-then-may_grow-clause-answer
returns-then-may_grow-clause-answer c =
    let looked = c.unwrap_or-protection.ensures ∙ ap (λ o. unwrap_or o 0) c.prot.ensures ∙ protection-looked (get c.args.pages.now (c.args.first + c.args.old - 1)) in
    let may = c.may_grow.ensures.0 c.if-may_grow.true in (
      (λ (p : PassesLimit c.args.pages.now c.args.old c.args.new). let passes = c.passes_limit.ensures.1 p.1 in absurd (cc)),
      Grown c.if-new-old.false (record { inside = omega (arith, may.0, c.if-new-old.false); free = may.1 }) refl
          (c.in_ok-map_zeros.ensures.ok ∙ ap (with_zeros c.args.pages.now (c.args.first + c.args.old) (c.args.new - c.args.old)) looked),
    )

pub returns-then-not-may_move-clause-answer : goal.returns-then-not-may_move-clause-answer
returns-then-not-may_move-clause-answer c = (
  (λ (p : PassesLimit c.args.pages.now c.args.old c.args.new). let passes = c.passes_limit.ensures.1 p.1 in absurd (cc)),
  record { grows = c.if-new-old.false; stuck = (λ (g : MayGrow c.args.pages.now c.args.first c.args.old c.args.new). let grows = c.may_grow.ensures.1 (omega (arith, g.inside, c.if-new-old.false), g.free) in absurd (cc)); nowhere = inl c.if-not-may_move.true },
  refl,
)

pub returns-in-None-clause-answer : goal.returns-in-None-clause-answer
returns-in-None-clause-answer c = (
  (λ (p : PassesLimit c.args.pages.now c.args.old c.args.new). let passes = c.passes_limit.ensures.1 p.1 in absurd (cc)),
  record { grows = c.if-new-old.false; stuck = (λ (g : MayGrow c.args.pages.now c.args.first c.args.old c.args.new). let grows = c.may_grow.ensures.1 (omega (arith, g.inside, c.if-new-old.false), g.free) in absurd (cc)); nowhere = inr c.in-None.ensures },
  refl,
)

pub map_zeros-requires-in-Some-clause-protection : goal.map_zeros-requires-in-Some-clause-protection
map_zeros-requires-in-Some-clause-protection c =
    let looked = c.unwrap_or-protection.ensures ∙ ap (λ o. unwrap_or o 0) c.prot.ensures ∙ protection-looked (get c.args.pages.now (c.args.first + c.args.old - 1)) in
    subst (λ (n : ℕ). n ≤ 7) (sym looked) (protection-bits c.args.pages.now (c.args.first + c.args.old - 1) _ c.requires.valid refl)

pub returns-in_ok-map_zeros-in-Some-clause-answer : goal.returns-in_ok-map_zeros-in-Some-clause-answer
returns-in_ok-map_zeros-in-Some-clause-answer c =
    let looked = c.unwrap_or-protection.ensures ∙ ap (λ o. unwrap_or o 0) c.prot.ensures ∙ protection-looked (get c.args.pages.now (c.args.first + c.args.old - 1)) in (
      (λ (p : PassesLimit c.args.pages.now c.args.old c.args.new). let passes = c.passes_limit.ensures.1 p.1 in absurd (cc)),
      Moved c.if-new-old.false (λ (g : MayGrow c.args.pages.now c.args.first c.args.old c.args.new). let grows = c.may_grow.ensures.1 (omega (arith, g.inside, c.if-new-old.false), g.free) in absurd (cc)) c.if-not-may_move.false c.in-Some.ensures c.move_pages.new.pages c.in_ok-move_pages-in-Some.ensures.ok
          (c.in_ok-map_zeros-in-Some.ensures.ok ∙ ap (with_zeros c.move_pages.new.pages (c.in-Some.to + c.args.old) (c.args.new - c.args.old)) looked),
    )

-- where there is a place for it, it has one
has_a_place : (pages : Pages) (first old new : ℕ) (may_move : Bool) (at : ℕ) → may_move ≡ true → IsGreatestPlace pages new (Some at)
    → HasNoPlace pages first old new may_move → ⊥
has_a_place pages first old new may_move at moves place none =
    elim none.nowhere [
      | inl still ↦ let both = sym moves ∙ still in absurd (cc)
      | inr nowhere ↦ nowhere at place.0
    ]

-- want of memory where the answer would be another
wants : (result : Result ℕ MapError) (before after : Pages) (first old new : ℕ) (may_move : Bool)
    → IsErrAnd result (λ e. e ≡ NoMemory)
    → (PassesLimit before old new → ⊥) → (HasNoPlace before first old new may_move → ⊥)
    → IsRemapAnswer result before after first old new may_move
wants (Ok at) before after first old new may_move same few some = absurd same
wants (Err e) before after first old new may_move same few some =
    subst (λ e. IsRemapAnswer (Err e) before after first old new may_move) (sym same) (few, some)

pub returns-in_err-map_zeros-clause-answer : goal.returns-in_err-map_zeros-clause-answer
returns-in_err-map_zeros-clause-answer c =
    let may = c.may_grow.ensures.0 c.if-may_grow.true in
    wants c.from_residual.result c.args.pages.now c.map_zeros.new.pages c.args.first c.args.old c.args.new c.args.may_move c.from_residual.ensures.1
    (λ (p : PassesLimit c.args.pages.now c.args.old c.args.new). let passes = c.passes_limit.ensures.1 p.1 in absurd (cc))
    (λ (p : HasNoPlace c.args.pages.now c.args.first c.args.old c.args.new c.args.may_move). p.stuck (record { inside = omega (arith, may.0, c.if-new-old.false); free = may.1 }))

pub returns-in_err-move_pages-in-Some-clause-answer : goal.returns-in_err-move_pages-in-Some-clause-answer
returns-in_err-move_pages-in-Some-clause-answer c =
    wants c.from_residual-in_err-move_pages-in-Some.result c.args.pages.now c.move_pages.new.pages c.args.first c.args.old c.args.new c.args.may_move c.from_residual-in_err-move_pages-in-Some.ensures.1
    (λ (p : PassesLimit c.args.pages.now c.args.old c.args.new). let passes = c.passes_limit.ensures.1 p.1 in absurd (cc))
    (has_a_place c.args.pages.now c.args.first c.args.old c.args.new c.args.may_move c.in-Some.to c.if-not-may_move.false c.in-Some.ensures)

pub returns-in_err-map_zeros-in-Some-clause-answer : goal.returns-in_err-map_zeros-in-Some-clause-answer
returns-in_err-map_zeros-in-Some-clause-answer c =
    wants c.from_residual-in_err-map_zeros-in-Some.result c.args.pages.now c.map_zeros-in-Some.new.pages c.args.first c.args.old c.args.new c.args.may_move c.from_residual-in_err-map_zeros-in-Some.ensures.1
    (λ (p : PassesLimit c.args.pages.now c.args.old c.args.new). let passes = c.passes_limit.ensures.1 p.1 in absurd (cc))
    (has_a_place c.args.pages.now c.args.first c.args.old c.args.new c.args.may_move c.in-Some.to c.if-not-may_move.false c.in-Some.ensures)
