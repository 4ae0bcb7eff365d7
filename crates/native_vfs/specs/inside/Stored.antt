-- How the nodes are kept: in a slab, under keys that it picks, each with its number.
use Rattle.std.specs.Prelude.{◌≡◌, ℕ, ◌+◌, ◌<◌, ⊤, Bool, List, map, Option, Some, None, is_some, option_map, All, nat_lt, true, false}
use Rattle.std.specs.FinMap.{from_entries, get}
use Rattle.slab.specs.Slab.{Slab, get as slab_get, entries}
use Rattle.kernel_core.specs.FileSystem.{IsFileSystem}
use Rattle.kernel_core.specs.Nodes.{Nodes, Inode, Listing, NodeContent, File, Directory, Link, update, entry_named}
use Rattle.kernel_core.specs.Totals.{live_entries}
use Rattle.kernel_core.specs.ValidTree.{root, greatest_cookie}
use Rattle.directory_names.specs.Names.{plain}
use Rattle.directory_names.specs.declared.entry.NodeRef.{NodeRef}
use Rattle.number_pool.specs.Places.{is_taken_at}
use Rattle.native_vfs.specs.Keyed.{Keyed, Keys}
use Rattle.native_vfs.specs.declared.stored.Stored.{Stored}
use Rattle.native_vfs.specs.declared.stored.StoredContent.{StoredContent}
use Rattle.native_vfs.specs.declared.stored.StoredContent.TheVariants as kept
use Rattle.native_vfs.specs.declared.stored.StoredDirectory.{StoredDirectory}

abbrev pub number_of : NodeRef → ℕ
number_of node = node.number

abbrev pub listing_of : StoredDirectory → Listing
listing_of directory = record {
  parent = option_map number_of directory.parent;
  greatest = directory.names.greatest;
  entries = map plain directory.names.entries;
}

abbrev pub content_of : StoredContent → NodeContent
content_of (kept.File content) = File content
content_of (kept.Directory directory) = Directory (listing_of directory)
content_of (kept.Link target) = Link target

-- a node without its number and the keys of the nodes that it names
abbrev pub inode_of : Stored → Inode
inode_of node = record {
  mode = node.mode;
  access = node.access;
  modified = node.modified;
  changed = node.changed;
  links = node.links;
  holds = node.holds;
  content = content_of node.content;
}

abbrev pub Table : Type 0
Table = Slab Stored

-- the nodes by their numbers
unfoldable pub nodes_of : Table → Nodes
nodes_of table = from_entries (map (λ e. (e.1.number, inode_of e.1)) (entries table))

-- the number of the node at each key
unfoldable pub keys_of : Table → Keys
keys_of table = from_entries (map (λ e. (e.0, e.1.number)) (entries table))

unfoldable pub keyed_of : Table → Keyed
keyed_of table = record { nodes = nodes_of table; keys = keys_of table }

-- no two nodes have one number
abbrev pub HasDistinctNumbers : Table → Type 0
HasDistinctNumbers table =
    (key other : ℕ) (node second : Stored) → slab_get table key ≡ Some node → slab_get table other ≡ Some second →
    node.number ≡ second.number → key ≡ other

-- a reference leads to the node of its number
abbrev pub Leads : Table → NodeRef → Type 0
Leads table reference = (node : Stored) × (slab_get table reference.key ≡ Some node) × (node.number ≡ reference.number)

abbrev pub OptionLeads : Table → Option NodeRef → Type 0
OptionLeads table None = ⊤
OptionLeads table (Some reference) = Leads table reference

-- the references that a node keeps: those of its names, and that of its parent
pub record DirectoryLeads (table : Table) (directory : StoredDirectory) : Type 0 where
  pub parent : OptionLeads table directory.parent
  pub names : All (λ e. Leads table (record { number = e.number; key = e.key })) directory.names.entries

abbrev pub ContentLeads : Table → StoredContent → Type 0
ContentLeads table (kept.File content) = ⊤
ContentLeads table (kept.Directory directory) = DirectoryLeads table directory
ContentLeads table (kept.Link target) = ⊤

-- each reference leads to the node of its number
abbrev pub HasReferences : Table → Type 0
HasReferences table = (key : ℕ) (node : Stored) → slab_get table key ≡ Some node → ContentLeads table node.content

-- a place of the pool of numbers is taken exactly where the number, which is greater by 2, is that of a live node
abbrev pub AgreesPool : Nodes → List Bool → Type 0
AgreesPool nodes taken = (place : ℕ) → place < 65536 → is_taken_at taken place ≡ is_some (get nodes (place + 2))

-- what is kept stands for a file system, whose entries are counted
pub record IsSound (table : Table) (entry_count : ℕ) : Type 0 where
  pub references : HasReferences table
  pub system : IsFileSystem (nodes_of table)
  pub entry_total : entry_count ≡ live_entries (nodes_of table)

-- the same, and the root has its key
pub record IsKept (table : Table) (entry_count root_key : ℕ) : Type 0 where
  pub sound : IsSound table entry_count
  pub top : Leads table (record { number = root; key = root_key })

-- One step of a call: a node changes, and all else stays.

-- each key keeps the number that it stands for
abbrev pub KeepsNumbers : Table → Table → Type 0
KeepsNumbers old new = (key : ℕ) → option_map (λ n. n.number) (slab_get new key) ≡ option_map (λ n. n.number) (slab_get old key)

-- the number of the node at a key
abbrev pub number_in : Option Stored → ℕ
number_in None = 0
number_in (Some node) = node.number

abbrev pub number_of_key : Table → ℕ → ℕ
number_of_key table key = number_in (slab_get table key)

-- there is room for one more entry in the directory at a key
abbrev pub content_has_room : StoredContent → Bool
content_has_room (kept.File content) = false
content_has_room (kept.Directory directory) = nat_lt 0 directory.names.spare
content_has_room (kept.Link target) = false

abbrev pub node_has_room : Option Stored → Bool
node_has_room None = false
node_has_room (Some node) = content_has_room node.content

abbrev pub HasRoom : Table → ℕ → Type 0
HasRoom table key = node_has_room (slab_get table key) ≡ true

-- the node at the key is changed, each reference still leads to its node, and no room is lost
pub record IsStep (old new : Table) (key : ℕ) (change : Inode → Inode) : Type 0 where
  pub nodes : nodes_of new ≡ update (nodes_of old) (number_of_key old key) change
  pub numbers : KeepsNumbers old new
  pub references : HasReferences old → HasReferences new
  pub room : (directory : ℕ) → HasRoom old directory → HasRoom new directory

-- a name can be added: the directory is one, has a cookie left, and doesn't have the name
abbrev pub CanAdd : Option Listing → List ℕ → Type 0
CanAdd None name = ⊥
CanAdd (Some listing) name = (listing.greatest < greatest_cookie) × (entry_named listing.entries name ≡ None)
