-- The first piece of a list, by the place of its first separator.
use Rattle.std.proofs.Common.{◌≡◌, ℕ, ◌+◌, ◌<◌, ◌≤◌, Bool, true, false, cond, ltb, List, [], ◌∷◌, length, take, drop, Some, None, refl, arith, ap, subst, ◌∙◌}
use Rattle.std.specs.List.{position, position_or_len, slice_split, onto_first}
use Rattle.std.proofs.lemmas.List.Splits.{slice_split_first, slice_split-cons_no}
use Rattle.std.proofs.lemmas.Bool.{ltb-true, ltb-false}

-- what stands in front of the place, and the pieces behind it
pub pieces_at : (p : ℕ → Bool) (xs : List ℕ) (i : ℕ) → position p xs ≡ Some i → (i < length xs) × (slice_split p xs ≡ take i xs ∷ slice_split p (drop (i + 1) xs))
pieces_at p xs i found =
    elim (ltb (position_or_len p xs) (length xs)) as (λ b. cond b (Some (position_or_len p xs)) None ≡ Some i → (ltb (position_or_len p xs) (length xs) ≡ b) → (i < length xs) × (slice_split p xs ≡ take i xs ∷ slice_split p (drop (i + 1) xs))) [
      | true ↦ λ e below.
          let place : position_or_len p xs ≡ i = cc in
          let P : ℕ → Type 0 = λ k. (k < length xs) × (slice_split p xs ≡ take k xs ∷ slice_split p (drop (k + 1) xs)) in
          subst P place (ltb-true _ _ below, slice_split_first p xs 0 (ltb-true _ _ below))
      | false ↦ λ e below. cc
    ] found refl

-- where no separator stands, one piece
one_piece : (p : ℕ → Bool) (xs : List ℕ) → length xs ≤ position_or_len p xs → slice_split p xs ≡ xs ∷ []
one_piece p [] past = refl
one_piece p (x ∷ xs) past =
    elim (p x) as (λ b. p x ≡ b → slice_split p (x ∷ xs) ≡ (x ∷ xs) ∷ []) [
      | true ↦ λ passes. absurd (omega (arith, rw passes at past))
      | false ↦ λ fails.
          let below : length xs ≤ position_or_len p xs = omega (arith, rw fails at past) in
          slice_split-cons_no p x xs fails ∙ ap (onto_first x) (one_piece p xs below)
    ] refl

pub pieces_none : (p : ℕ → Bool) (xs : List ℕ) → position p xs ≡ None → slice_split p xs ≡ xs ∷ []
pieces_none p xs none =
    elim (ltb (position_or_len p xs) (length xs)) as (λ b. cond b (Some (position_or_len p xs)) None ≡ None → (ltb (position_or_len p xs) (length xs) ≡ b) → slice_split p xs ≡ xs ∷ []) [
      | true ↦ λ e below. cc
      | false ↦ λ e past. one_piece p xs (ltb-false _ _ past)
    ] none refl
