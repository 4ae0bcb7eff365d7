-- What is left of the table of nodes where a name was taken away.
use Rattle.std.specs.Prelude.{◌≡◌, ◌≢◌, ℕ, true, is_some}
use Rattle.std.specs.FinMap.{get}
use Rattle.directory_names.specs.declared.entry.NodeRef.{NodeRef}
use Rattle.native_vfs.specs.Keyed.{KeepsKeys}
use Rattle.native_vfs.specs.inside.Stored.{Table, nodes_of, keyed_of, HasRoom, Leads}

-- The node at the key may have gone, and every other one has kept its key. The other directories lose no room.
pub record IsLoss (old new : Table) (key : ℕ) : Type 0 where
  pub keys : KeepsKeys (keyed_of old) (keyed_of new)
  pub leads : (reference : NodeRef) → Leads old reference → is_some (get (nodes_of new) reference.number) ≡ true → Leads new reference
  pub room : (directory : ℕ) → directory ≢ key → HasRoom old directory → HasRoom new directory
