-- A finite map that has each number of a run has at least as many entries as the run has numbers.
use Rattle.std.proofs.Common.{◌≡◌, ◌≢◌, ℕ, zero, suc, ◌+◌, ◌-◌, ◌<◌, ◌≤◌, ◌⊎◌, Bool, true, false, cond, List, length, None, is_some, sym, ap, ◌∙◌, inl, inr, arith}
use Rattle.std.specs.Ordering.{nat_cmp, eq_by_cmp}
use Rattle.std.specs.Cmp.{nat_cmp_total}
use Rattle.std.specs.FinMap.{FinMap, get, remove, len, get-empty, get-remove, len-remove, empty_of_len}
use Rattle.std.proofs.lemmas.Bool.{cases_eq}
use Rattle.std.proofs.lemmas.Bool.Decides.{nat_tests}
use Rattle.number_pool.specs.Places.{is_taken_at, AreAllTaken}

-- the map has each of the `count` numbers from `first` on
abbrev pub HasRun : {X : Type 0} → FinMap nat_cmp X → ℕ → ℕ → Type 0
HasRun m first count = (n : ℕ) → first ≤ n → n < first + count → is_some (get m n) ≡ true

module _ {X : Type 0} where
  some_entry : (m : FinMap nat_cmp X) (n : ℕ) → is_some (get m n) ≡ true → 0 < len m
  some_entry m n has =
      elim (cases_eq (len m) 0) [
        | inl none ↦
            let lacks : true ≡ false = sym has ∙ ap (λ (e : FinMap nat_cmp X). is_some (get e n)) (empty_of_len m none) ∙ ap is_some (get-empty nat_cmp n) in
            absurd (cc lacks)
        | inr some ↦ omega arith
      ]

  still_has : (m : FinMap nat_cmp X) (gone n : ℕ) → n ≢ gone → is_some (get m n) ≡ true → is_some (get (remove m gone) n) ≡ true
  still_has m gone n apart has =
      let test : eq_by_cmp nat_cmp n gone ≡ false = grind (arith, nat_tests) in
      ap is_some (get-remove nat_cmp_total m gone n ∙ ap (λ b. cond b None (get m n)) test) ∙ has

  one_less : (m : FinMap nat_cmp X) (gone : ℕ) → is_some (get m gone) ≡ true → len (remove m gone) + 1 ≡ len m
  one_less m gone has =
      let less = len-remove nat_cmp_total m gone ∙ ap (λ b. cond b (len m - 1) (len m)) has in
      omega (arith, less, some_entry m gone has)

  pub run_fits : (m : FinMap nat_cmp X) (first count : ℕ) → HasRun m first count → count ≤ len m
  run_fits m first zero run = omega arith
  run_fits m first (suc count) run =
      let last = first + count in
      let rest : count ≤ len (remove m last) =
      run_fits (remove m last) first count (λ n low high. still_has m last n (omega arith) (run n low (omega arith))) in
      omega (arith, rest, one_less m last (run last (omega arith) (omega arith)))

  -- the same, with one more number that is not of the run
  pub run_fits_beside : (m : FinMap nat_cmp X) (first count other : ℕ) → HasRun m first count
      → (other < first) ⊎ (first + count ≤ other) → is_some (get m other) ≡ true → count + 1 ≤ len m
  run_fits_beside m first count other run outside has =
      let apart : (n : ℕ) → first ≤ n → n < first + count → n ≢ other =
      λ n low high same. elim outside [ inl below ↦ omega arith | inr above ↦ omega arith ] in
      let rest : count ≤ len (remove m other) =
      run_fits (remove m other) first count (λ n low high. still_has m other n (apart n low high) (run n low high)) in
      omega (arith, rest, one_less m other has)

  -- a map has an entry for each place of a pool that tells of the numbers from `first` on and is full
  pub full_pool_fits : (m : FinMap nat_cmp X) (first : ℕ) (taken : List Bool)
      → ((place : ℕ) → place < length taken → is_some (get m (first + place)) ≡ is_taken_at taken place)
      → AreAllTaken taken → length taken ≤ len m
  full_pool_fits m first taken tells full =
      run_fits m first (length taken) (λ n low high.
      let back : n ≡ first + (n - first) = omega arith in
      let inside : n - first < length taken = omega arith in
      ap (λ k. is_some (get m k)) back ∙ tells (n - first) inside ∙ full (n - first) inside)
