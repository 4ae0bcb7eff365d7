-- The first free place is what a search for it finds.
use Rattle.std.proofs.Common.{◌≡◌, ℕ, ◌+◌, ◌-◌, ◌<◌, ◌≤◌, List, drop, length, get_or, refl, sym, ◌∙◌, ap, subst, true, false, arith, length-drop}
use Rattle.std.specs.Prelude.{Option, Some, None, is_some, is_none, option_map, unwrap_or, position}
use Rattle.std.proofs.lemmas.List.Quantifiers.{position-Some}
use Rattle.std.proofs.lemmas.List.{get_or-drop}
use Rattle.kernel_model.specs.Laws.{IsLeastFree}
use Rattle.kernel_model.specs.Table.{slot, lowest_free, new_place}

nothing_there : {A : Type 0} (o : Option A) → is_none o ≡ true → o ≡ None
nothing_there None e = refl
nothing_there (Some x) e = absurd cc

something_there : {A : Type 0} (o : Option A) → is_none o ≡ false → is_some o ≡ true
something_there None e = absurd cc
something_there (Some x) e = refl

module _ {A : Type 0} (slots : List (Option A)) (from : ℕ) where
  taken_below : (k : ℕ) → ((i : ℕ) → i < k → is_none (get_or (drop from slots) i None) ≡ false)
      → (lower : ℕ) → from ≤ lower → lower < from + k → is_some (slot slots lower) ≡ true
  taken_below k before lower low high =
      let place : from + (lower - from) ≡ lower = omega (arith, low) in
      let same : get_or (drop from slots) (lower - from) None ≡ slot slots lower = get_or-drop from slots (lower - from) None ∙ ap (λ n. slot slots n) place in
      something_there _ (ap (λ o. is_none o) (sym same) ∙ before (lower - from) (omega (arith, low, high)))

  found : (k : ℕ) → position (λ s. is_none s) (drop from slots) ≡ Some k → IsLeastFree slots from (from + k)
  found k e =
      let facts = position-Some (λ (s : Option A). is_none s) (drop from slots) k None e in
      record {
        from_there = omega arith;
        within = omega (arith, facts.0, length-drop from slots);
        free = sym (get_or-drop from slots k None) ∙ nothing_there _ facts.1;
        taken = taken_below k facts.2;
      }

  searched : (place : Option ℕ) (number : ℕ) → position (λ s. is_none s) (drop from slots) ≡ place
      → option_map (λ k. from + k) place ≡ Some number → IsLeastFree slots from number
  searched None number e h = absurd cc
  searched (Some k) number e h = subst (λ n. IsLeastFree slots from n) (ap (λ o. unwrap_or o 0) h) (found k e)

  pub least_free : (number : ℕ) → lowest_free slots from ≡ Some number → IsLeastFree slots from number
  least_free number h = searched (position (λ s. is_none s) (drop from slots)) number refl h

pub new_place_is_least : {A : Type 0} (slots : List (Option A)) (free : ℕ) → lowest_free slots 0 ≡ Some free → IsLeastFree slots 0 (new_place slots)
new_place_is_least slots free h =
    subst (λ o. IsLeastFree slots 0 (unwrap_or o (length slots))) (sym h) (least_free slots 0 free h)
