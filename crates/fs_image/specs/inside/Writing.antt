-- What the writing of a part of a tree adds, and what it needs.
use Rattle.std.specs.Prelude.{◌≡◌, ◌≤◌, ℕ, List, ◌++◌, length, Result, Ok, Err}
use Rattle.kernel_core.specs.declared.tree.Node.{Node}
use Rattle.kernel_core.specs.ValidTree.{IsNode, block_limit, entry_limit, blocks_of, entries_of}
use Rattle.fs_image.specs.Adding.{AddsPrefix}

-- all of the text was added, or, where memory runs out, a prefix of it
abbrev pub Adds : {A E : Type 0} → List ℕ → Result A E → List ℕ → List ℕ → Type 0
Adds text (Ok done) old new = new ≡ old ++ text
Adds text (Err error) old new = AddsPrefix text old new

-- a node that is valid, and whose counts are within the limits of a tree
pub record CanBeWritten (node : Node) : Type 0 where
  pub valid : IsNode node
  pub blocks : length (blocks_of node.kind) ≤ block_limit
  pub entries : length (entries_of node.kind) ≤ entry_limit
