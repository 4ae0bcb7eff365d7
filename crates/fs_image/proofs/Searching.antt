-- What a binary search finds among nodes by rising numbers.
use Rattle.std.proofs.Common.{◌≡◌, ℕ, ◌<◌, ◌≤◌, false, true, List, [], ◌∷◌, length, get_or, sym, ap, arith, inl, inr, Ok, Err}
use Rattle.std.specs.Prelude.{◌==◌}
use Rattle.std.specs.List.Sorted.{IsStrictlySortedBy, IsBinarySearchResult, IsNonDecreasingBy}
use Rattle.std.specs.Ordering.{nat_cmp, ordering_index}
use Rattle.std.proofs.lemmas.Bool.{cases_lt, ne_eqb, eq-eqb}
use Rattle.std.proofs.lemmas.Bool.Decides.{nat_tests}
use Rattle.std.proofs.lemmas.Cmp.{ranked}
use Rattle.std.proofs.lemmas.List.{get_or-map, length-map}
use Rattle.std.proofs.lemmas.List.Elements.{Contains-get_or}
use Rattle.fs_image.proofs.Reaching.{true_any}
use Rattle.std.proofs.lemmas.List.Folds.{list_any_none}
use Rattle.std.proofs.lemmas.Map.Keys.{below_from_sorted}
use Rattle.kernel_core.specs.declared.tree.Node.{Node}
use Rattle.kernel_core.specs.ValidTree.{numbers}
use Rattle.fs_image.specs.Naming.{is_there}

index_rises : (a b k : ℕ) → a ≤ b → ordering_index (nat_cmp a k) ≤ ordering_index (nat_cmp b k)
index_rises a b k le = grind (arith, nat_tests)

numbers_rise : (nodes : List Node) (i j : ℕ) (d : Node) → IsStrictlySortedBy nat_cmp (numbers nodes) → i ≤ j → j < length nodes → (get_or nodes i d).number ≤ (get_or nodes j d).number
numbers_rise nodes i j d sorted le below =
    elim (cases_lt i j) as (λ _. (get_or nodes i d).number ≤ (get_or nodes j d).number) [
      | inl lt ↦
          let ni = get_or-map (λ (n : Node). n.number) nodes i d 0 (omega arith) in
          let nj = get_or-map (λ (n : Node). n.number) nodes j d 0 below in
          omega (arith, ni, nj, below_from_sorted (numbers nodes) i j 0 sorted lt (omega (arith, below, length-map nodes (λ (n : Node). n.number))))
      | inr ge ↦
          let same : i ≡ j = omega arith in
          let numbers_same : (get_or nodes i d).number ≡ (get_or nodes j d).number = ap (λ k. (get_or nodes k d).number) same in
          omega (arith, numbers_same)
    ]

comparisons_rise : (nodes : List Node) (number : ℕ) → IsStrictlySortedBy nat_cmp (numbers nodes) → IsNonDecreasingBy (λ n. ordering_index (nat_cmp n.number number)) nodes
comparisons_rise nodes number sorted = λ i j d le below. index_rises (get_or nodes i d).number (get_or nodes j d).number number (numbers_rise nodes i j d sorted le below)

pub found_number : (nodes : List Node) (number at : ℕ) → IsBinarySearchResult (λ n. nat_cmp n.number number) nodes (Ok at) → (d : Node) → (get_or nodes at d).number ≡ number
found_number nodes number at equal d = ranked _ number _ (sym (equal d))

pub absent_number : (nodes : List Node) (number at : ℕ) → IsStrictlySortedBy nat_cmp (numbers nodes) → IsBinarySearchResult (λ n. nat_cmp n.number number) nodes (Err at) → is_there nodes number ≡ false
absent_number nodes number at sorted parted =
    let parts = parted (comparisons_rise nodes number sorted) in
    list_any_none (λ (n : Node). n.number == number) nodes (λ k d below.
    ne_eqb (get_or nodes k d).number number (λ same.
    elim (cases_lt k at) [
      | inl lt ↦ let less : (get_or nodes k d).number < number = ranked _ number _ (sym (parts.0 k d (omega arith) lt)) in omega (arith, same, less)
      | inr ge ↦ let more : number < (get_or nodes k d).number = ranked _ number _ (sym (parts.1 k d ge below)) in omega (arith, same, more)
    ]))

pub there_at : (nodes : List Node) (number at : ℕ) → at < length nodes → ((d : Node) → (get_or nodes at d).number ≡ number) → is_there nodes number ≡ true
there_at [] number at below is = absurd (omega (arith, below))
there_at (n ∷ nodes) number at below is =
    true_any (λ (m : Node). m.number == number) (n ∷ nodes) (get_or (n ∷ nodes) at n) (Contains-get_or (n ∷ nodes) at n below) (eq-eqb _ _ (is n))
