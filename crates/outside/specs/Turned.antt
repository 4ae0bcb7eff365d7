-- Loads that a store turned away. This project's own.
use Rattle.std.specs.Prelude.{ℕ, List, [], ◌∷◌, Result, Ok, Err}
use Rattle.outside.specs.declared.errors.LoadError.{LoadError}
use Rattle.outside.specs.declared.errors.LoadError.TheVariants as answers

-- a load under this name and limit, and its answer, Missing or TooLong
pub record TurnedLoad : Type 0 where
  pub name : List ℕ
  pub limit : ℕ
  pub answer : LoadError

-- what a load with this answer adds to the list of loads turned away
abbrev pub turned_by : List ℕ → ℕ → Result (Unit {0}) LoadError → List TurnedLoad
turned_by name limit (Err answers.Missing) = record { name = name; limit = limit; answer = answers.Missing } ∷ []
turned_by name limit (Err answers.TooLong) = record { name = name; limit = limit; answer = answers.TooLong } ∷ []
turned_by name limit (Err answers.Failed) = []
turned_by name limit (Err answers.NoMemory) = []
turned_by name limit (Ok done) = []
