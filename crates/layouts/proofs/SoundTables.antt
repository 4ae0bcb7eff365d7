-- A test that computes whether a table is sound.
use Rattle.std.proofs.Common.{◌≡◌, ℕ, ◌+◌, ◌<◌, ◌≤◌, Bool, true, false, List, [], ◌∷◌, length, All, AllPairs, refl, arith, ◌⊎◌, inl, inr}
use Rattle.std.specs.Prelude.{nat_le, ◌&&◌, ◌||◌, slice_index_or}
use Rattle.std.specs.List.{list_all}
use Rattle.std.proofs.lemmas.Bool.{leb-true}
use Rattle.std.proofs.lemmas.List.Sums.{AllPass-from_list_all}
use Rattle.std.proofs.lemmas.List.Kept.{AllPairs-cons}
use Rattle.layouts.specs.declared.field.Field.{Field}
use Rattle.layouts.specs.Number.{IsPlaced}
use Rattle.layouts.specs.Shape.{Shape, AreApart, IsSound}

abbrev is_placed : ℕ → Field → Bool
is_placed size field = nat_le 1 field.width && (nat_le field.width 8 && nat_le (field.offset + field.width) size)

abbrev is_apart : Field → Field → Bool
is_apart one other = nat_le (one.offset + one.width) other.offset || nat_le (other.offset + other.width) one.offset

abbrev are_apart : List Field → Bool
are_apart [] = true
are_apart (field ∷ fields) = list_all (is_apart field) fields && are_apart fields

abbrev pub is_sound : Shape → Bool
is_sound shape = list_all (is_placed shape.size) shape.fields && are_apart shape.fields

both : (a b : Bool) → (a && b) ≡ true → (a ≡ true) × (b ≡ true)
both true b holds = (refl, holds)
both false b holds = cc

either : (a b : Bool) → (a || b) ≡ true → (a ≡ true) ⊎ (b ≡ true)
either true b holds = inl refl
either false b holds = inr holds

placed_from : (size : ℕ) (field : Field) → is_placed size field ≡ true → IsPlaced size field
placed_from size field holds =
    let parts = both (nat_le 1 field.width) (nat_le field.width 8 && nat_le (field.offset + field.width) size) holds in
    let rest = both (nat_le field.width 8) (nat_le (field.offset + field.width) size) parts.1 in
    record { some = leb-true _ _ parts.0; few = leb-true _ _ rest.0; inside = leb-true _ _ rest.1 }

apart_from : (one other : Field) → is_apart one other ≡ true → AreApart one other
apart_from one other holds =
    elim (either (nat_le (one.offset + one.width) other.offset) (nat_le (other.offset + other.width) one.offset) holds) [
      | inl before ↦ inl (leb-true _ _ before)
      | inr behind ↦ inr (leb-true _ _ behind)
    ]

all_placed : (size : ℕ) (fields : List Field) → list_all (is_placed size) fields ≡ true → All (IsPlaced size) fields
all_placed size fields holds = λ k d below.
    placed_from size (slice_index_or fields k d) (AllPass-from_list_all (is_placed size) fields holds k d below)

all_apart : (fields : List Field) → are_apart fields ≡ true → AllPairs AreApart fields
all_apart [] holds = λ i j d before below. absurd (omega arith)
all_apart (field ∷ fields) holds =
    let parts = both (list_all (is_apart field) fields) (are_apart fields) holds in
    let first : All (AreApart field) fields = λ k d below.
    apart_from field (slice_index_or fields k d) (AllPass-from_list_all (is_apart field) fields parts.0 k d below) in
    AllPairs-cons AreApart field fields first (all_apart fields parts.1)

-- a table that passes is sound
pub sound_from_test : (shape : Shape) → is_sound shape ≡ true → IsSound shape
sound_from_test shape holds =
    let parts = both (list_all (is_placed shape.size) shape.fields) (are_apart shape.fields) holds in
    record { placed = all_placed shape.size shape.fields parts.0; apart = all_apart shape.fields parts.1 }
