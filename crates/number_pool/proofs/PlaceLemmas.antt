-- What a caller needs of the pool's words: the empty pool, a pool after a call, and the one least free place.
use Rattle.std.proofs.Common.{◌≡◌, ◌≢◌, ℕ, ◌<◌, ◌≤◌, Bool, true, false, List, length, set, replicate, sym, ◌∙◌, inl, inr, arith}
use Rattle.std.proofs.lemmas.List.{length-replicate, get_or-replicate, get_or_past, get_or-set_same, get_or-set_other}
use Rattle.std.proofs.lemmas.Bool.{cases_lt}
use Rattle.number_pool.specs.Places.{none_taken, is_taken_at, IsLeastFree}

free_at : (size place : ℕ) → is_taken_at (replicate size false) place ≡ false
free_at size place =
    elim (cases_lt place size) [
      | inl inside ↦ get_or-replicate size place false false inside
      | inr past ↦ get_or_past (replicate size false) place false (omega (arith, length-replicate size false))
    ]

pub none_taken-at : (size place : ℕ) → is_taken_at (none_taken size) place ≡ false
unfolding none_taken
none_taken-at size place = free_at size place

pub length-none_taken : (size : ℕ) → length (none_taken size) ≡ size
unfolding none_taken
length-none_taken size = length-replicate size false

-- the place of the call, and each other place
pub set-at : (taken : List Bool) (place : ℕ) (is : Bool) → place < length taken → is_taken_at (set taken place is) place ≡ is
set-at taken place is inside = get_or-set_same taken place is false inside

pub set-elsewhere : (taken : List Bool) (place other : ℕ) (is : Bool) → other ≢ place → is_taken_at (set taken place is) other ≡ is_taken_at taken other
set-elsewhere taken place other is apart = get_or-set_other taken place other is false apart

not_below : (taken : List Bool) (p q : ℕ) → IsLeastFree taken p → IsLeastFree taken q → p ≤ q
not_below taken p q least other =
    elim (cases_lt q p) [
      | inl below ↦ absurd (let both : true ≡ false = sym (least.below q below) ∙ other.free in cc both)
      | inr above ↦ above
    ]

pub least_free_same : (taken : List Bool) (p q : ℕ) → IsLeastFree taken p → IsLeastFree taken q → p ≡ q
least_free_same taken p q least other = omega (arith, not_below taken p q least other, not_below taken q p other least)
