-- What is moved out of a source. A source that tells its bytes tells all that are left; one that tells none tells none later on either. This project's own.
use Rattle.std.specs.Prelude.{◌≡◌, ℕ, List, length, take, drop, min, Option, None, Some}

-- `count` bytes went from the front of what was left to the front of `buffer`: as many as there is room for, or all that were left. The rest of the buffer is as it was in `before`.
abbrev pub MovesOut : Option (List ℕ) → Option (List ℕ) → List ℕ → List ℕ → ℕ → Type 0
MovesOut None new before buffer count = new ≡ None
MovesOut (Some left) new before buffer count =
    (count ≡ min (length buffer) (length left)) × (take count buffer ≡ take count left) × (drop count buffer ≡ drop count before) × (new ≡ Some (drop count left))
