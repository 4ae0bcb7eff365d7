-- What the making of a node leaves of the table of nodes.
use Rattle.std.specs.Prelude.{◌≡◌, ℕ, None}
use Rattle.std.specs.FinMap.{get, insert}
use Rattle.kernel_core.specs.NameCalls.{IsNewNumber}
use Rattle.kernel_core.specs.Nodes.{Nodes}
use Rattle.directory_names.specs.declared.entry.NodeRef.{NodeRef}
use Rattle.native_vfs.specs.inside.Stored.{Table, nodes_of, keys_of, HasReferences, Leads, KeepsNumbers}

-- A node is made: it has the least number that was free, and a key that stood for none. Each reference still leads to its node.
pub record IsMade (old new : Table) (key : ℕ) (after : ℕ → Nodes) : Type 0 where
  pub number : ℕ
  pub least : IsNewNumber (nodes_of old) number
  pub nodes : nodes_of new ≡ after number
  pub fresh : get (keys_of old) key ≡ None
  pub keys : keys_of new ≡ insert (keys_of old) key number
  pub references : HasReferences old → HasReferences new
  pub leads : (reference : NodeRef) → Leads old reference → Leads new reference

-- A node has one more name: each key keeps its node.
pub record IsNamedAgain (old new : Table) (after : Nodes) : Type 0 where
  pub nodes : nodes_of new ≡ after
  pub numbers : KeepsNumbers old new
  pub references : HasReferences old → HasReferences new
