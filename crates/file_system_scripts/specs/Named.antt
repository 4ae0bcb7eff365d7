-- What a test of a file system knows of the nodes that it holds. (The form is this project's own.)
use Rattle.std.specs.Prelude.{◌≡◌, ◌≤◌, ℕ, Option, Some, is_some, true}
use Rattle.std.specs.FinMap.{get}
use Rattle.kernel_core.specs.Queries.{holds_at}
use Rattle.native_vfs.specs.Keyed.{Keyed, number_at}

-- No node is held more often than `most` says, and the node that a test has named is held so many times or more, at least once.
pub record AreHeld (system : Keyed) (named : Option ℕ) (times most : ℕ) : Type 0 where
  pub few : (number : ℕ) → holds_at system.nodes number ≤ most
  pub live : (key : ℕ) → named ≡ Some key → is_some (get system.keys key) ≡ true
  pub held : (key : ℕ) → named ≡ Some key → times ≤ holds_at system.nodes (number_at system key)
  pub once : (key : ℕ) → named ≡ Some key → 1 ≤ times
