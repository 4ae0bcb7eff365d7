-- What a store keeps of its calls. This project's own.
use Rattle.std.specs.Prelude.{ℕ, List}
use Rattle.outside.specs.Turned.{TurnedLoad}

-- the names of the loads that were answered, the loads turned away, and the names of the files made, each in the order of the calls
pub record Register : Type 0 where
  pub loads : List (List ℕ)
  pub turned_away : List TurnedLoad
  pub created : List (List ℕ)
