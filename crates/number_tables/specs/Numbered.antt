-- Looking a value up by its number. (The look-up is this project's own; the tables that it looks in name their sources.)
use Rattle.std.specs.Prelude.{ℕ, ◌==◌, Option, Some, None, List, [], ◌∷◌, if◌then◌else◌}

-- the first of a list that has this number, and where none has it the last argument but one
abbrev pub numbered_or : {A : Type 0} → (A → ℕ) → List A → Option A → ℕ → Option A
numbered_or number_of [] otherwise number = otherwise
numbered_or number_of (first ∷ rest) otherwise number =
    if number == number_of first then Some first else numbered_or number_of rest otherwise number

-- the first of a list that has this number
abbrev pub numbered : {A : Type 0} → (A → ℕ) → List A → ℕ → Option A
numbered number_of values number = numbered_or number_of values None number
