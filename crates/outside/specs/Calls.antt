-- Which calls of a device in memory fail. This project's own.
use Rattle.std.specs.Prelude.{ℕ, List, Contains}
use Rattle.outside.specs.Count.{next_count}

-- how many calls were made, and the numbers of those that fail, counted from 1 over all calls on the device
pub record Calls : Type 0 where
  pub made : ℕ
  pub failing : List ℕ

-- the next call fails
abbrev pub NextFails : Calls → Type 0
NextFails calls = Contains calls.failing (next_count calls.made)

-- one call more was made
abbrev pub after_call : Calls → Calls
after_call calls = record calls { made = next_count calls.made }
