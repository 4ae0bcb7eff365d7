-- The names of the loads that a store answered. This project's own.
use Rattle.std.specs.Prelude.{ℕ, List, [], ◌∷◌, Result, Ok, Err}
use Rattle.outside.specs.declared.errors.LoadError.{LoadError}
use Rattle.outside.specs.declared.errors.LoadError.TheVariants as answers

-- What a load of this name adds to them: the name, where it was answered that the file is loaded, missing or too long. A load in which the
-- store failed or memory ran out came to no answer.
abbrev pub answered_by : List ℕ → Result (Unit {0}) LoadError → List (List ℕ)
answered_by name (Ok done) = name ∷ []
answered_by name (Err answers.Missing) = name ∷ []
answered_by name (Err answers.TooLong) = name ∷ []
answered_by name (Err answers.Failed) = []
answered_by name (Err answers.NoMemory) = []
