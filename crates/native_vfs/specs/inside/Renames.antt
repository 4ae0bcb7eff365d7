-- What the parts of a renaming leave of the nodes and of their table.
use Rattle.std.specs.Prelude.{◌≡◌, ℕ, true, false, ℤ, List, Option, Some, None, is_some, ⊤}
use Rattle.std.specs.FinMap.{get}
use Rattle.kernel_core.specs.NameCalls.{take_name, add_name, move_parent, changed_at, has_entries}
use Rattle.kernel_core.specs.Nodes.{Nodes, is_directory, update}
use Rattle.directory_names.specs.declared.entry.NodeRef.{NodeRef}
use Rattle.native_vfs.specs.Keyed.{KeepsKeys}
use Rattle.native_vfs.specs.inside.Stored.{Table, nodes_of, keyed_of, HasReferences, HasRoom, KeepsNumbers, Leads}

-- the nodes after a node's name was moved to a place that is free
abbrev pub entry_moved : Nodes → ℕ → List ℕ → ℕ → ℕ → List ℕ → ℤ → Nodes
entry_moved nodes from name moved to new now =
    update (move_parent (add_name (take_name nodes from name now) to new moved now) moved from to) moved (changed_at now)

-- a node that may be replaced is no directory, or an empty one
abbrev pub MayGive : Nodes → Option ℕ → Type 0
MayGive nodes None = ⊤
MayGive nodes (Some old) = is_directory nodes old ≡ true → has_entries nodes old ≡ false

-- What stood under a name may have gone, and every other node has kept its key. The name's directory loses no room.
pub record IsCleared (old new : Table) (directory : ℕ) : Type 0 where
  pub keys : KeepsKeys (keyed_of old) (keyed_of new)
  pub leads : (reference : NodeRef) → Leads old reference → is_some (get (nodes_of new) reference.number) ≡ true → Leads new reference
  pub room : HasRoom old directory → HasRoom new directory

-- Nodes have become these, and each has kept its key and number.
pub record Becomes (old new : Table) (after : Nodes) : Type 0 where
  pub nodes : nodes_of new ≡ after
  pub numbers : KeepsNumbers old new
  pub references : HasReferences old → HasReferences new
