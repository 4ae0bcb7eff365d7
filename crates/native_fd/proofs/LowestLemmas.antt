-- The least free slot from one on, from what is known of each slot.
use Rattle.std.proofs.Common.{◌≡◌, ℕ, zero, suc, ◌+◌, ◌-◌, ◌<◌, ◌≤◌, Bool, true, false, cond, not, nat_lt, List, [], ◌∷◌, drop, length, get_or, Option, Some, None, refl, sym, ap, ◌∙◌, arith, length-drop}
use Rattle.std.specs.Prelude.{IfSome, MatchOption, is_some, is_none, option_map, position}
use Rattle.std.specs.List.{position_or_len}
use Rattle.std.proofs.lemmas.Bool.{lt-ltb, le-ltb}
use Rattle.std.proofs.lemmas.List.{get_or-drop}
use Rattle.kernel_model.specs.Table.{slot, lowest_free}
use Rattle.number_pool.specs.Places.{is_taken_at, AreTakenFrom, IsLeastFreeFrom}

module _ {X : Type 0} (p : X → Bool) where
  first_passes : (xs : List X) (k : ℕ) (d : X) → k < length xs → p (get_or xs k d) ≡ true → ((j : ℕ) → j < k → p (get_or xs j d) ≡ false) → position_or_len p xs ≡ k
  first_passes [] k d within here before = absurd (omega arith)
  first_passes (x ∷ xs) zero d within here before = ap (λ b. cond (not b) (1 + position_or_len p xs) 0) here
  first_passes (x ∷ xs) (suc k) d within here before =
      ap (λ b. cond (not b) (1 + position_or_len p xs) 0) (before 0 (omega arith))
      ∙ ap (λ n. 1 + n) (first_passes xs k d (omega arith) here (λ j h. before (suc j) (omega arith)))
      ∙ omega arith

  none_passes : (xs : List X) (d : X) → ((j : ℕ) → j < length xs → p (get_or xs j d) ≡ false) → position_or_len p xs ≡ length xs
  none_passes [] d before = refl
  none_passes (x ∷ xs) d before =
      ap (λ b. cond (not b) (1 + position_or_len p xs) 0) (before 0 (omega arith))
      ∙ ap (λ n. 1 + n) (none_passes xs d (λ j h. before (suc j) (omega arith)))
      ∙ omega arith

  position_at : (xs : List X) (k : ℕ) (d : X) → k < length xs → p (get_or xs k d) ≡ true → ((j : ℕ) → j < k → p (get_or xs j d) ≡ false) → position p xs ≡ Some k
  position_at xs k d within here before =
      ap (λ n. cond (nat_lt n (length xs)) (Some n) None) (first_passes xs k d within here before)
      ∙ ap (λ b. cond b (Some k) None) (lt-ltb k (length xs) within)

  position_none : (xs : List X) (d : X) → ((j : ℕ) → j < length xs → p (get_or xs j d) ≡ false) → position p xs ≡ None
  position_none xs d before =
      ap (λ n. cond (nat_lt n (length xs)) (Some n) None) (none_passes xs d before)
      ∙ ap (λ b. cond b (Some (length xs)) None) (le-ltb (length xs) (length xs) (omega arith))

module _ {A : Type 0} where
  some_not_none : (o : Option A) → is_some o ≡ true → is_none o ≡ false
  some_not_none None e = absurd (cc)
  some_not_none (Some x) e = refl

  not_some : (o : Option A) → is_some o ≡ false → o ≡ None
  not_some None e = refl
  not_some (Some x) e = absurd (cc)

  -- a free slot from `from` on below which all are taken
  pub lowest_free-is : (slots : List (Option A)) (from k : ℕ) → from ≤ k → k < length slots → slot slots k ≡ None
      → ((j : ℕ) → from ≤ j → j < k → is_some (slot slots j) ≡ true) → lowest_free slots from ≡ Some k
  lowest_free-is slots from k there within free taken =
      let back : from + (k - from) ≡ k = omega arith in
      ap (option_map (λ n. from + n)) (position_at (λ s. is_none s) (drop from slots) (k - from) None (omega (arith, length-drop from slots, there, within))
      (ap (λ s. is_none s) (get_or-drop from slots (k - from) None ∙ ap (slot slots) back ∙ free))
      (λ j below. ap (λ s. is_none s) (get_or-drop from slots j None) ∙ some_not_none _ (taken (from + j) (omega arith) (omega (arith, below, there)))))
      ∙ ap Some back

  -- no free slot from `from` on
  pub lowest_free-none : (slots : List (Option A)) (from : ℕ) → ((j : ℕ) → from ≤ j → j < length slots → is_some (slot slots j) ≡ true) → lowest_free slots from ≡ None
  lowest_free-none slots from taken =
      ap (option_map (λ n. from + n)) (position_none (λ s. is_none s) (drop from slots) None
      (λ j below. ap (λ s. is_none s) (get_or-drop from slots j None) ∙ some_not_none _ (taken (from + j) (omega arith) (omega (arith, below, length-drop from slots)))))

  pub free-there : (slots : List (Option A)) (pool : List Bool) → ((k : ℕ) → is_taken_at pool k ≡ is_some (slot slots k)) → (k : ℕ) → is_taken_at pool k ≡ false → slot slots k ≡ None
  free-there slots pool tells k free = not_some _ (sym (tells k) ∙ free)

  -- Slots whose pool tells which are taken; what places it has more are free.
  module _ (slots : List (Option A)) (pool : List Bool) (small : length slots ≤ length pool) (tells : (k : ℕ) → is_taken_at pool k ≡ is_some (slot slots k)) (from : ℕ) where
    pub lowest-within : (k : ℕ) → k < length slots → IsLeastFreeFrom pool from k → Some k ≡ lowest_free slots from
    lowest-within k within least =
        sym (lowest_free-is slots from k least.from_there within (not_some _ (sym (tells k) ∙ least.free)) (λ j there below. sym (tells j) ∙ least.between j there below))

    pub lowest-all : AreTakenFrom pool from → None ≡ lowest_free slots from
    lowest-all all = sym (lowest_free-none slots from (λ j there below. sym (tells j) ∙ all j there (omega arith)))

    -- what the pool finds, where it has no more places
    module _ (same : length pool ≤ length slots) where
      pub lowest-is : (found : Option ℕ) → MatchOption found (AreTakenFrom pool from) (IsLeastFreeFrom pool from) → found ≡ lowest_free slots from
      lowest-is None all = lowest-all all
      lowest-is (Some k) least = lowest-within k (omega (arith, least.inside, same)) least

      pub found-within : (found : Option ℕ) → MatchOption found (AreTakenFrom pool from) (IsLeastFreeFrom pool from) → IfSome found (λ k. k < length slots)
      found-within None all = tt
      found-within (Some k) least = omega (arith, least.inside, same)

      pub found-free : (found : Option ℕ) → MatchOption found (AreTakenFrom pool from) (IsLeastFreeFrom pool from) → IfSome found (λ k. slot slots k ≡ None)
      found-free None all = tt
      found-free (Some k) least = free-there slots pool tells k least.free
