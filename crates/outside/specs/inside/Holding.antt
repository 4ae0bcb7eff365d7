-- Which files an adapter holds open: what it keeps between its calls, and a change at one place.
use Rattle.std.specs.Prelude.{◌≡◌, ◌⊎◌, ℕ, List, [], ◌∷◌, Contains, Option, slice_index_or, slice_set}
use Rattle.outside.specs.Held.{HeldFile}

-- a file of this name is held
abbrev pub IsHeld : List HeldFile → List ℕ → Type 0
IsHeld [] name = ⊥
IsHeld (file ∷ files) name = (file.name ≡ name) ⊎ IsHeld files name

-- a file of each of these names is held
pub record AreHeld (files : List HeldFile) (names : List (List ℕ)) : Type 0 where
  pub each : (name : List ℕ) → Contains names name → IsHeld files name

-- the file at this place holds what P has second, and nothing else changed
abbrev pub ChangesAt : List HeldFile → List HeldFile → ℕ → (Option (List ℕ) → Option (List ℕ) → Type 0) → Type 0
ChangesAt old new place P =
    (d : HeldFile) → (after : Option (List ℕ))
    × (new ≡ slice_set old place (record (slice_index_or old place d) { bytes = after }))
    × P (slice_index_or old place d).bytes after
