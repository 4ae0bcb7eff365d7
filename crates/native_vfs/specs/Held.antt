-- Held nodes live on: what a call leaves of how often nodes are held, and of the keys of those that are.
use Rattle.std.specs.Prelude.{◌≡◌, ◌≤◌, ℕ, Some}
use Rattle.std.specs.FinMap.{get}
use Rattle.kernel_core.specs.Queries.{KeepsHolds, ChangesHolds, kind_at, holds_at}
use Rattle.native_vfs.specs.Keyed.{Keyed}

-- a key stands for the node that it stood for, which is of the kind that it was
abbrev pub StaysKey : Keyed → Keyed → ℕ → ℕ → Type 0
StaysKey old new key number = (get new.keys key ≡ Some number) × (kind_at new.nodes number ≡ kind_at old.nodes number)

-- Each node is held as often as before, and the keys of held nodes stay.
pub record KeepsHeld (old new : Keyed) : Type 0 where
  pub holds : KeepsHolds old.nodes new.nodes
  pub keys : (key number : ℕ) → get old.keys key ≡ Some number → 1 ≤ holds_at old.nodes number → StaysKey old new key number

-- The holds of one node change, and the keys of nodes that are held before and after stay.
pub record ChangesHeld (old new : Keyed) (node : ℕ) (change : ℕ → ℕ) : Type 0 where
  pub holds : ChangesHolds old.nodes new.nodes node change
  pub keys : (key number : ℕ) → get old.keys key ≡ Some number → 1 ≤ holds_at old.nodes number → 1 ≤ holds_at new.nodes number → StaysKey old new key number
