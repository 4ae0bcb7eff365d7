-- The effects of a change of size, by its cases.
use Rattle.std.proofs.Common.{◌≡◌, ◌≢◌, ◌<◌, ◌+◌, ◌-◌, ◌==◌, suc, ℕ, Bool, true, false, List, [], ◌∷◌, ◌++◌, refl, ap, ◌∙◌, arith}
use Rattle.std.proofs.lemmas.Bool.Decides.{nat_tests}
use Rattle.std.specs.Prelude.{nat_lt, if◌then◌else◌}
use Rattle.std.specs.FinMap.{get}
use Rattle.guest_space.specs.Memory.{Pages}
use Rattle.kernel_core.specs.declared.record.Effect.{Effect}
use Rattle.kernel_core.specs.declared.record.Effect.TheVariants.{Map, Unmap}
use Rattle.bridge_map.specs.Rows.{page_effects, pages_effects, move_effects, resize_effects}

module _ (pages : Pages) (first : ℕ) where
  pub pages_effects-none : pages_effects pages first 0 ≡ []
  unfolding pages_effects
  pages_effects-none = refl

  pub pages_effects-more : (n : ℕ) → pages_effects pages first (n + 1) ≡ pages_effects pages first n ++ page_effects (first + n) (get pages (first + n))
  unfolding pages_effects
  pages_effects-more n = let e : n + 1 ≡ suc n = omega arith in ap (pages_effects pages first) e

module _ (pages : Pages) (first old at : ℕ) where
  pub stays_put : at ≡ first → move_effects pages first old at ≡ []
  stays_put same =
      let test : (at == first) ≡ true = grind (arith, nat_tests) in
      ap (λ b. if b then [] else Unmap first old ∷ pages_effects pages at old) test

  pub moves_away : at ≢ first → move_effects pages first old at ≡ Unmap first old ∷ pages_effects pages at old
  moves_away other =
      let test : (at == first) ≡ false = grind (arith, nat_tests) in
      ap (λ b. if b then [] else Unmap first old ∷ pages_effects pages at old) test

module _ (pages : Pages) (first old new at protection : ℕ) where
  by_tests : Bool → Bool → List Effect
  by_tests less same =
      if less then Unmap (first + new) (old - new) ∷ []
      else (if same then []
      else move_effects pages first old at ++ Map (at + old) (new - old) protection ∷ [])

  tested : resize_effects pages first old new at protection ≡ by_tests (nat_lt new old) (new == old)
  unfolding resize_effects by_tests
  tested = refl

  pub cut_effects : new < old → resize_effects pages first old new at protection ≡ Unmap (first + new) (old - new) ∷ []
  unfolding by_tests
  cut_effects less =
      let test : nat_lt new old ≡ true = grind (arith, nat_tests) in
      tested ∙ ap (λ b. by_tests b (new == old)) test

  pub same_effects : new ≡ old → resize_effects pages first old new at protection ≡ []
  unfolding by_tests
  same_effects same =
      let test : nat_lt new old ≡ false = grind (arith, nat_tests) in
      let equal : (new == old) ≡ true = grind (arith, nat_tests) in
      tested ∙ (λ i. by_tests (test i) (equal i))

  pub growth_effects : old < new → resize_effects pages first old new at protection ≡ move_effects pages first old at ++ Map (at + old) (new - old) protection ∷ []
  unfolding by_tests
  growth_effects more =
      let test : nat_lt new old ≡ false = grind (arith, nat_tests) in
      let other : (new == old) ≡ false = grind (arith, nat_tests) in
      tested ∙ (λ i. by_tests (test i) (other i))
