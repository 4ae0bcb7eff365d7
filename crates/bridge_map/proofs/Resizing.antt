-- A change of size as memory tells of it is the one of the table.
use Rattle.std.proofs.Common.{◌≡◌, ◌≢◌, ◌<◌, ◌+◌, ◌-◌, ◌&&◌, ℕ, Bool, true, false, not, Option, Some, None, refl, sym, ap, ◌∙◌, arith, inl, inr}
use Rattle.std.proofs.lemmas.Bool.Decides.{nat_tests}
use Rattle.std.specs.Prelude.{nat_le, if◌then◌else◌}
use Rattle.std.specs.Cmp.{nat_cmp_total}
use Rattle.std.specs.FinMap.{same_map, nat_cmp-IsAntisymmetric}
use Rattle.guest_space.proofs.Ranges.{absent-free, free-absent}
use Rattle.guest_space.specs.Mapping.{absent_count, mapped_run}
use Rattle.guest_space.specs.Memory.{Pages}
use Rattle.guest_space.specs.Places.{IsGreatestPlace}
use Rattle.guest_space.specs.Remapping.{AreMoved, IsRemapped, Cut, Grown, Moved, MayGrow, PassesLimit, HasNoPlace, growth_end}
use Rattle.kernel_core.specs.declared.error.Errno.TheVariants.{ENOMEM}
use Rattle.kernel_model.specs.Came.{Came, Did, Done, Refused, done, refused, refused_if, with_some}
use Rattle.o32_model.proofs.MapLaws.{greatest_place_is, moved_is}
use Rattle.o32_model.specs.Ranges.{greatest_place, is_free, may_grow, moved, cut, grown, moved_and_grown, enlarged, resized, passes_limit, with_more_pages, last_protection}
use Rattle.bridge_map.proofs.Ranges.{place_tells}

both_true : (a b : Bool) → a && b ≡ true → (a ≡ true) × (b ≡ true)
both_true true b is = (refl, is)
both_true false b is = absurd (cc)

module _ (pages : Pages) (first old new : ℕ) where
  grows : MayGrow pages first old new → may_grow pages first old new ≡ true
  grows may =
      let inside : nat_le (first + new) growth_end ≡ true = let e = may.inside in grind (arith, nat_tests) in
      let all = free-absent pages (first + old) (new - old) may.free in
      let free : is_free pages (first + old) (new - old) ≡ true = grind (arith, nat_tests) in
      (λ i. inside i && free i)

  stuck : (MayGrow pages first old new → ⊥) → may_grow pages first old new ≡ false
  stuck may_not = by_test (may_grow pages first old new) refl
    where
      by_test : (test : Bool) → may_grow pages first old new ≡ test → test ≡ false
      by_test false same = refl
      by_test true same =
          let parts = both_true (nat_le (first + new) growth_end) (is_free pages (first + old) (new - old)) same in
          let all : absent_count pages (first + old) (new - old) ≡ new - old = let e = parts.1 in grind (arith, nat_tests) in
          absurd (may_not (record { inside = let e = parts.0 in grind (arith, nat_tests); free = absent-free pages (first + old) (new - old) all }))

  pub same_pages : (other : Pages) (to : ℕ) → mapped_run pages first old ≡ old → AreMoved pages other first to old → moved pages first to old ≡ other
  same_pages other to whole are = same_map nat_cmp_total nat_cmp-IsAntisymmetric _ _ (λ q. moved_is pages first to old whole q ∙ sym (are q))

module _ (pages : Pages) (first old new : ℕ) (may_move : Bool) where
  large : old < new → resized pages first old new may_move ≡ refused_if (passes_limit pages old new) ENOMEM pages (enlarged pages first old new may_move)
  unfolding resized
  large more =
      let test : nat_le new old ≡ false = grind (arith, nat_tests) in
      ap (λ b. if b then cut pages first old new else refused_if (passes_limit pages old new) ENOMEM pages (enlarged pages first old new may_move)) test

  within : old < new → (PassesLimit pages old new → ⊥) → resized pages first old new may_move ≡ enlarged pages first old new may_move
  within more few = large more ∙ ap (λ b. refused_if b ENOMEM pages (enlarged pages first old new may_move)) (by_test (passes_limit pages old new) refl)
    where
      by_test : (test : Bool) → passes_limit pages old new ≡ test → test ≡ false
      by_test false same = refl
      by_test true same = absurd (few (more, let e = same in grind (arith, nat_tests)))

  pub full_is : PassesLimit pages old new → resized pages first old new may_move ≡ refused pages ENOMEM
  full_is passes =
      let test : passes_limit pages old new ≡ true = let e = passes.1 in grind (arith, nat_tests) in
      large passes.0 ∙ ap (λ b. refused_if b ENOMEM pages (enlarged pages first old new may_move)) test

  pub nowhere_is : (PassesLimit pages old new → ⊥) → HasNoPlace pages first old new may_move → resized pages first old new may_move ≡ refused pages ENOMEM
  nowhere_is few without_place =
      within without_place.grows few
      ∙ ap (λ b. if b then grown pages first old new else refused_if (not may_move) ENOMEM pages (moved_and_grown pages first old new)) (stuck pages first old new without_place.stuck)
      ∙ elim without_place.nowhere [
        | inl may_not ↦ ap (λ b. refused_if (not b) ENOMEM pages (moved_and_grown pages first old new)) may_not
        | inr none ↦
            ap (λ o. refused_if (not may_move) ENOMEM pages (with_some pages ENOMEM o (placed_at pages))) (sym (place_tells pages new None none))
            ∙ either (not may_move)
      ]
    where
      placed_at : Pages → ℕ → Did Pages ℕ
      placed_at pages to = done (with_more_pages (moved pages first to old) to old new (last_protection pages first old)) to

      either : (b : Bool) → refused_if b ENOMEM pages (refused {V = ℕ} pages ENOMEM) ≡ refused pages ENOMEM
      either true = refl
      either false = refl

  pub remapped_is : (after : Pages) (at : ℕ) → mapped_run pages first old ≡ old → (PassesLimit pages old new → ⊥) → IsRemapped pages after first old new may_move at
      → resized pages first old new may_move ≡ done after at
  unfolding resized
  remapped_is after at whole few (Cut less place now) =
      let test : nat_le new old ≡ true = grind (arith, nat_tests) in
      ap (λ b. if b then cut pages first old new else refused_if (passes_limit pages old new) ENOMEM pages (enlarged pages first old new may_move)) test
      ∙ (λ i. done (sym now i) (sym place i))
  remapped_is after at whole few (Grown more may place now) =
      within more few
      ∙ ap (λ b. if b then grown pages first old new else refused_if (not may_move) ENOMEM pages (moved_and_grown pages first old new)) (grows pages first old new may)
      ∙ (λ i. done (sym now i) (sym place i))
  remapped_is after at whole few (Moved more may_not leave place other are now) =
      within more few
      ∙ ap (λ b. if b then grown pages first old new else refused_if (not may_move) ENOMEM pages (moved_and_grown pages first old new)) (stuck pages first old new may_not)
      ∙ ap (λ b. refused_if (not b) ENOMEM pages (moved_and_grown pages first old new)) leave
      ∙ ap (λ o. with_some pages ENOMEM o (λ to. done (with_more_pages (moved pages first to old) to old new (last_protection pages first old)) to)) (sym (place_tells pages new (Some at) place))
      ∙ ap (λ m. done (with_more_pages m at old new (last_protection pages first old)) at) (same_pages pages first old new other at whole are)
      ∙ ap (λ m. done m at) (sym now)

  pub has_room : (PassesLimit pages old new → ⊥) → (HasNoPlace pages first old new may_move → ⊥) → (resized pages first old new may_move).came ≢ Refused ENOMEM
  unfolding resized
  has_room few placed none = by_size (nat_le new old) refl
    where
      is_done : {V : Type 0} (value : V) → Done value ≢ Refused ENOMEM
      is_done value same = absurd cc

      came : Bool → Came ℕ
      came smaller = (if smaller then cut pages first old new else refused_if (passes_limit pages old new) ENOMEM pages (enlarged pages first old new may_move)).came

      anywhere : old < new → (MayGrow pages first old new → ⊥) → (to : Option ℕ) → IsGreatestPlace pages new to
          → (with_some pages ENOMEM to (λ to. done (with_more_pages (moved pages first to old) to old new (last_protection pages first old)) to)).came ≡ Refused ENOMEM → ⊥
      anywhere more may_not None is same = placed (record { grows = more; stuck = may_not; nowhere = inr is })
      anywhere more may_not (Some to) is same = is_done to same

      moving : old < new → (MayGrow pages first old new → ⊥) → (move : Bool) → may_move ≡ move
          → (refused_if (not move) ENOMEM pages (moved_and_grown pages first old new)).came ≡ Refused ENOMEM → ⊥
      moving more may_not false stays same = placed (record { grows = more; stuck = may_not; nowhere = inl stays })
      moving more may_not true moves same = anywhere more may_not (greatest_place pages new) (greatest_place_is pages new) same

      growing : old < new → (grow : Bool) → may_grow pages first old new ≡ grow
          → (if grow then grown pages first old new else refused_if (not may_move) ENOMEM pages (moved_and_grown pages first old new)).came ≡ Refused ENOMEM → ⊥
      growing more true grow same = is_done first same
      growing more false grow same = moving more (λ may. absurd (let wrong : false ≡ true = sym grow ∙ grows pages first old new may in cc)) may_move refl same

      by_size : (smaller : Bool) → nat_le new old ≡ smaller → ⊥
      by_size true less = is_done first (sym (ap came less) ∙ none)
      by_size false more =
          let larger : old < new = let e = more in grind (arith, nat_tests) in
          growing larger (may_grow pages first old new) refl (ap (λ (d : Did Pages ℕ). d.came) (sym (within larger few)) ∙ none)
