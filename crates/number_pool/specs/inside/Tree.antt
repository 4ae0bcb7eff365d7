-- A complete binary tree of flags in a list, for the crate's own functions (this project's own rule, in
-- the layout of a binary heap: node 1 is the root, and the children of node n are 2n and 2n + 1). Leaf p
-- is node size + p.
use Rattle.std.specs.Prelude.{◌≡◌, ℕ, ◌+◌, ◌*◌, ◌<◌, ◌≤◌, Bool, true, false, List, length, drop, slice_index_or, ◌&&◌}

-- whether the node is full: a leaf that is taken, or an inner node with only taken leaves below it
abbrev pub is_full_at : List Bool → ℕ → Bool
is_full_at flags node = slice_index_or flags node false

-- the node is full exactly where both its children are
abbrev pub IsMended : List Bool → ℕ → Type 0
IsMended flags node = is_full_at flags node ≡ (is_full_at flags (2 * node) && is_full_at flags (2 * node + 1))

-- a tree with `size` leaves
pub record IsTree (size : ℕ) (flags : List Bool) : Type 0 where
  pub sized : length flags ≡ size + size
  pub mended : (node : ℕ) → 0 < node → node < size → IsMended flags node

-- whether each leaf is taken
unfoldable pub leaves : ℕ → List Bool → List Bool
leaves size flags = drop size flags

-- the nodes from `first` up to `end` that are not below `from` are full
abbrev pub AreFullFrom : List Bool → ℕ → ℕ → ℕ → Type 0
AreFullFrom flags first end from = (node : ℕ) → first ≤ node → from ≤ node → node < end → is_full_at flags node ≡ true

-- the least node from `first` up to `end` that is not below `from` and not full
pub record IsLeastNode (flags : List Bool) (first end from node : ℕ) : Type 0 where
  pub low : first ≤ node
  pub from_there : from ≤ node
  pub high : node < end
  pub free : is_full_at flags node ≡ false
  pub before : (other : ℕ) → first ≤ other → from ≤ other → other < node → is_full_at flags other ≡ true
