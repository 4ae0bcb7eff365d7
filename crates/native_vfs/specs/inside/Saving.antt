-- What is saved of the nodes.
use Rattle.std.specs.Prelude.{ℕ, List, filter, nat_lt}
use Rattle.std.specs.Borrow.{Bor}
use Rattle.std.specs.FinMap.{entries}
use Rattle.kernel_core.specs.Nodes.{Nodes, Inode}
use Rattle.kernel_core.specs.FileSystem.{IsTime}
use Rattle.kernel_core.specs.LoadedTree.{saved_node}
use Rattle.kernel_core.specs.declared.tree.Block.{Block}
use Rattle.kernel_core.specs.declared.tree.Node.{Node}
use Rattle.native_vfs.specs.inside.Stored.{inode_of}
use Rattle.native_vfs.specs.declared.stored.Stored.{Stored}

-- the nodes that have a link, by rising number
abbrev pub linked_in : Nodes → List (ℕ × Inode)
linked_in nodes = filter (λ e. nat_lt 0 e.1.links) (entries nodes)

-- a node that is kept, under its number
abbrev pub numbered : ℕ × Bor Stored → ℕ × Inode
numbered e = (e.0, inode_of e.1.now)

-- a block that a file keeps, as a tree has it
abbrev pub block_of : ℕ × List ℕ → Block
block_of b = record { index = b.0; bytes = b.1 }

-- a node that is kept, as a tree has it
abbrev pub saved_of : ℕ × Bor Stored → Node
saved_of e = saved_node e.0 (inode_of e.1.now)

-- the time of the last modification is one that a tree can have
abbrev pub HasTime : ℕ × Bor Stored → Type 0
HasTime e = IsTime e.1.now.modified
