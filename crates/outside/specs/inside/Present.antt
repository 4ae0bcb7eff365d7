-- Which files a store in memory has: what it keeps between its calls.
use Rattle.std.specs.Prelude.{◌≡◌, ℕ, Contains, List, Some}
use Rattle.outside.specs.Content.{FileBytes, content_of}

-- there is a file of this name
abbrev pub IsThere : List FileBytes → List ℕ → Type 0
IsThere files name = (bytes : List ℕ) × (content_of files name ≡ Some bytes)

-- each of these names has its file
pub record AreThere (files : List FileBytes) (names : List (List ℕ)) : Type 0 where
  pub each : (name : List ℕ) → Contains names name → IsThere files name
