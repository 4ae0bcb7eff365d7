-- Bits of a word in another order, for the crate's own functions (this project's own rule).
use Rattle.std.specs.Prelude.{ℕ, ◌+◌, ◌*◌, ◌/◌, ◌%◌, ◌^◌, List, [], ◌∷◌}

-- the bits at some places, the first of them the lowest
abbrev pub gathered : ℕ → List ℕ → ℕ
gathered word [] = 0
gathered word (place ∷ places) = word / 2 ^ place % 2 + 2 * gathered word places
