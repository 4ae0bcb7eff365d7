-- What each step of a call leaves of the table of nodes, beyond `IsStep`.
use Rattle.std.specs.Prelude.{◌≡◌, ◌≢◌, ℕ, ◌+◌, ◌<◌, ◌==◌, ◌≤◌, Bool, true, false, ℤ, List, [], ◌∷◌, take, Option, Some, None, IfSome, IsSomeAnd, is_some, if◌then◌else◌}
use Rattle.std.specs.FinMap.{get, insert, remove}
use Rattle.slab.specs.Slab.{Updates, get as slab_get}
use Rattle.kernel_core.specs.FileContent.{IsContent, written}
use Rattle.kernel_core.specs.FileSystem.{name_count, parent_at}
use Rattle.kernel_core.specs.NodeCalls.{modified_at, with_content}
use Rattle.kernel_core.specs.Totals.{live_blocks}
use Rattle.kernel_core.specs.ValidTree.{block_limit}
use Rattle.kernel_core.specs.Nodes.{Nodes, Inode, update, settled, file_at, file_in}
use Rattle.kernel_core.specs.declared.core_error.CoreError.{CoreError}
use Rattle.kernel_core.specs.declared.core_error.CoreError.TheVariants.{Refused, Stop}
use Rattle.directory_names.specs.declared.entry.NodeRef.{NodeRef}
use Rattle.number_pool.specs.Places.{is_taken_at}
use Rattle.native_vfs.specs.Keyed.{KeepsKeys}
use Rattle.native_vfs.specs.inside.Stored.{Table, nodes_of, keys_of, keyed_of, inode_of, content_of, Leads, number_of_key, KeepsNumbers, HasDistinctNumbers, HasReferences, HasRoom, IsStep}
use Rattle.native_vfs.specs.declared.stored.Stored.{Stored}

-- No node changes, each reference still leads to its node, and no room is lost.
pub record IsSame (old new : Table) : Type 0 where
  pub nodes : nodes_of new ≡ nodes_of old
  pub keys : keys_of new ≡ keys_of old
  pub numbers : KeepsNumbers old new
  pub references : HasReferences old → HasReferences new
  pub room : (directory : ℕ) → HasRoom old directory → HasRoom new directory

-- The node at the key is changed, and each reference still leads to its node. The other directories lose no room.
pub record IsAddition (old new : Table) (key : ℕ) (change : Inode → Inode) : Type 0 where
  pub nodes : nodes_of new ≡ update (nodes_of old) (number_of_key old key) change
  pub numbers : KeepsNumbers old new
  pub references : HasReferences old → HasReferences new
  pub room : (directory : ℕ) → directory ≢ key → HasRoom old directory → HasRoom new directory

-- The node comes in under a key that was free.
pub record IsInsertion (old new : Table) (key : ℕ) (node : Stored) : Type 0 where
  pub free : slab_get old key ≡ None
  pub updates : Updates old new key (Some node)
  pub nodes : nodes_of new ≡ insert (nodes_of old) node.number (inode_of node)
  pub keys : keys_of new ≡ insert (keys_of old) key node.number
  pub distinct : HasDistinctNumbers new
  pub references : HasReferences old → HasReferences new
  pub room : (directory : ℕ) → HasRoom old directory → HasRoom new directory

-- The node at the key goes.
pub record IsRemoval (old new : Table) (key : ℕ) : Type 0 where
  pub updates : Updates old new key None
  pub nodes : nodes_of new ≡ remove (nodes_of old) (number_of_key old key)
  pub keys : keys_of new ≡ remove (keys_of old) key
  pub distinct : HasDistinctNumbers new
  pub references : HasReferences old → HasReferences new
  pub room : (directory : ℕ) → directory ≢ key → HasRoom old directory → HasRoom new directory

-- The node at the key goes where it has no link and no hold. Every other node stays under its key.
pub record IsSettled (old new : Table) (key : ℕ) : Type 0 where
  pub nodes : nodes_of new ≡ settled (nodes_of old) (number_of_key old key)
  pub keys : KeepsKeys (keyed_of old) (keyed_of new)
  pub others : (other : ℕ) → other ≢ key → slab_get new other ≡ slab_get old other
  pub distinct : HasDistinctNumbers new
  pub references : HasReferences old → HasReferences new
  pub leads : (reference : NodeRef) → Leads old reference → is_some (get (nodes_of new) reference.number) ≡ true → Leads new reference
  pub room : (directory : ℕ) → directory ≢ key → HasRoom old directory → HasRoom new directory

-- the place of a number in the pool is free, and all else in it is as before
abbrev pub GivesBack : List Bool → List Bool → ℕ → Type 0
GivesBack old new number =
    (place : ℕ) → place < 65536 → is_taken_at new place ≡ (if place + 2 == number then false else is_taken_at old place)

-- The node of a file changes: its content then is one that a file may have.
pub record IsFileChange (old new : Stored) (change : Inode → Inode) : Type 0 where
  pub number : new.number ≡ old.number
  pub inode : inode_of new ≡ change (inode_of old)
  pub file : IsSomeAnd (file_in (content_of new.content)) IsContent

-- A file changes: its content then is one that a file may have, and all files keep no more blocks than they may.
pub record IsFileStep (old new : Table) (key : ℕ) (change : Inode → Inode) : Type 0 where
  pub step : IsStep old new key change
  pub valid : IfSome (file_at (nodes_of new) (number_of_key old key)) IsContent
  pub few : live_blocks (nodes_of new) ≤ block_limit

-- what a write of these bytes makes of a file; one of no byte changes nothing
abbrev pub file_written : ℕ → List ℕ → ℤ → Inode → Inode
file_written at [] now inode = inode
file_written at (byte ∷ bytes) now inode = modified_at now (λ c. written c at (byte ∷ bytes)) inode

-- a file with these bytes written, and its times as they were
abbrev pub content_written : ℕ → List ℕ → Inode → Inode
content_written at bytes inode = record inode { content = with_content (λ c. written c at bytes) inode.content }

-- What a write leaves that is not done: after a refusal all is as it was, and after want of memory a first part of the bytes, of
-- at most so many, is written.
abbrev pub LeavesPart : CoreError → Table → Table → ℕ → ℕ → List ℕ → ℕ → Type 0
LeavesPart (Refused error) old new key at bytes most = IsFileStep old new key (λ i. i)
LeavesPart (Stop stop) old new key at bytes most = (k : ℕ) × (k ≤ most) × IsFileStep old new key (content_written at (take k bytes))

abbrev pub links_in : Option Inode → ℕ
links_in None = 0
links_in (Some inode) = inode.links

abbrev pub holds_in : Option Inode → ℕ
holds_in None = 0
holds_in (Some inode) = inode.holds

-- how many links the node at a key has
abbrev pub links_at : Table → ℕ → ℕ
links_at table key = links_in (get (nodes_of table) (number_of_key table key))

-- how many holds the node at a key has
abbrev pub holds_at : Table → ℕ → ℕ
holds_at table key = holds_in (get (nodes_of table) (number_of_key table key))

-- no name and no parent of a directory is this node
pub record IsUnnamed (nodes : Nodes) (number : ℕ) : Type 0 where
  pub names : name_count nodes number ≡ 0
  pub parents : (directory : ℕ) → parent_at nodes directory ≢ Some number
