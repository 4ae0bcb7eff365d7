-- How the nodes of a tree come into the table: first without their entries, then each directory with them.
use Rattle.std.specs.Prelude.{◌≡◌, ℕ, ◌+◌, ◌==◌, Bool, List, [], ◌++◌, map, find, All, Option, Some, None, IsSome, option_map, nat_lt, if◌then◌else◌}
use Rattle.std.specs.Ordering.{nat_cmp}
use Rattle.std.specs.BTreeMap.{BTreeMap, get as tree_get}
use Rattle.std.specs.FinMap.{from_entries}
use Rattle.kernel_core.specs.FileSystem.{subdirectories}
use Rattle.kernel_core.specs.LoadedTree.{loaded_inode, is_dir_in, nanoseconds, greatest_of}
use Rattle.kernel_core.specs.Nodes.{Inode, Listing, NodeContent, File, Directory, Link, is_directory}
use Rattle.kernel_core.specs.ValidTree.{names_in, times_named, entries_of, root}
use Rattle.kernel_core.specs.declared.tree.Tree.{Tree}
use Rattle.kernel_core.specs.declared.tree.Node.{Node}
use Rattle.kernel_core.specs.declared.tree.Kind.{Kind}
use Rattle.kernel_core.specs.declared.tree.Kind.TheVariants as kinds
use Rattle.kernel_core.specs.declared.tree.DirEntry.{DirEntry}
use Rattle.directory_names.specs.Names.{NamedNode, Names, plain}
use Rattle.native_vfs.specs.inside.Stored.{Table, nodes_of, HasDistinctNumbers, HasReferences, Leads}
use Rattle.native_vfs.specs.declared.loading.Naming.{Naming}

abbrev pub tree_of : List Node → Tree
tree_of nodes = record { nodes = nodes }

-- Which names a number has

-- how often each number is named, and which node names it first
abbrev pub Namings : Type 0
Namings = BTreeMap ℕ Naming

abbrev pub times_in : Option Naming → ℕ
times_in None = 0
times_in (Some naming) = naming.times

abbrev pub times_at : Namings → ℕ → ℕ
times_at namings number = times_in (tree_get nat_cmp namings number)

abbrev pub namer_at : Namings → ℕ → Option ℕ
namer_at namings number = option_map (λ n. n.parent) (tree_get nat_cmp namings number)

-- the namer so far, or else this one where it names the number
abbrev pub or_namer : Option ℕ → Bool → ℕ → Option ℕ
or_namer None names namer = if names then Some namer else None
or_namer (Some earlier) names namer = Some earlier

-- a node names each number so many times more
pub record Notes (old new : Namings) (namer : ℕ) (times : ℕ → ℕ) : Type 0 where
  pub more : (number : ℕ) → times_at new number ≡ times_at old number + times number
  pub first : (number : ℕ) → namer_at new number ≡ or_namer (namer_at old number) (nat_lt 0 (times number)) namer

-- the node that names a number first
abbrev pub first_namer : List Node → ℕ → Option ℕ
first_namer nodes number = option_map (λ n. n.number) (find (λ n. nat_lt 0 (names_in (entries_of n.kind) number)) nodes)

pub record AreNamings (namings : Namings) (nodes : List Node) : Type 0 where
  pub times : (number : ℕ) → times_at namings number ≡ times_named nodes number
  pub first : (number : ℕ) → namer_at namings number ≡ first_namer nodes number

-- the number of the parent of a directory
abbrev pub parent_told : Namings → ℕ → Option ℕ
parent_told namings number = if number == root then Some root else namer_at namings number

-- The keys of the nodes

-- the key at which each number's node is kept
abbrev pub Places : Type 0
Places = BTreeMap ℕ ℕ

abbrev pub HasPlace : Places → ℕ → Type 0
HasPlace places number = IsSome (tree_get nat_cmp places number)

-- each of the places is that of the number's node
abbrev pub PlacesLead : Table → Places → Type 0
PlacesLead table places = (number key : ℕ) → tree_get nat_cmp places number ≡ Some key → Leads table (record { number = number; key = key })

-- a name has the key of its number's node
abbrev pub IsKeyed : Places → NamedNode → Type 0
IsKeyed places entry = tree_get nat_cmp places entry.number ≡ Some entry.key

-- Nodes without their entries

abbrev pub bare_content : Kind → NodeContent
bare_content (kinds.File size blocks) = File (record { size = size; blocks = from_entries (map (λ b. (b.index, b.bytes)) blocks) })
bare_content (kinds.Dir entries) = Directory (record { parent = None; greatest = 2; entries = [] })
bare_content (kinds.Link target) = Link target

abbrev pub bare_links : ℕ → Kind → ℕ
bare_links times (kinds.File size blocks) = times
bare_links times (kinds.Dir entries) = 0
bare_links times (kinds.Link target) = times

-- a node that is named so many times, where a directory has no entry, parent and link yet
abbrev pub bare_inode : ℕ → Node → Inode
bare_inode times node = record {
  mode = node.mode;
  access = nanoseconds node.mtime;
  modified = nanoseconds node.mtime;
  changed = nanoseconds node.mtime;
  links = bare_links times node.kind;
  holds = 0;
  content = bare_content node.kind;
}

abbrev pub bare_entry : List Node → Node → ℕ × Inode
bare_entry nodes node = (node.number, bare_inode (times_named nodes node.number) node)

abbrev pub loaded_entry : List Node → Node → ℕ × Inode
loaded_entry nodes node = (node.number, loaded_inode nodes node)

-- a directory with its links and what it lists
abbrev pub filled : ℕ → Listing → Inode → Inode
filled links listing inode = record inode { links = links; content = Directory listing }

-- names of these entries
pub record AreLoadedNames (places : Places) (entries : List DirEntry) (names : Names) : Type 0 where
  pub entries_are : map plain names.entries ≡ entries
  pub greatest_is : names.greatest ≡ greatest_of entries
  pub keyed : All (IsKeyed places) names.entries

-- The first nodes of a tree are in the table, without entries.
pub record ArePlaced (all placed : List Node) (table : Table) (places : Places) : Type 0 where
  pub nodes : nodes_of table ≡ from_entries (map (bare_entry all) placed)
  pub distinct : HasDistinctNumbers table
  pub references : HasReferences table
  pub leads : PlacesLead table places
  pub found : All (λ n. HasPlace places n.number) placed

-- All nodes of a tree are in the table, the first of them with their entries.
pub record AreNamed (all named bare : List Node) (table : Table) (places : Places) : Type 0 where
  pub nodes : nodes_of table ≡ from_entries (map (loaded_entry all) named ++ map (bare_entry all) bare)
  pub directories : (number : ℕ) → is_directory (nodes_of table) number ≡ is_dir_in all number
  pub distinct : HasDistinctNumbers table
  pub references : HasReferences table
  pub leads : PlacesLead table places

-- 2, and one for each entry that names a directory
abbrev pub directory_links : Table → List DirEntry → ℕ
directory_links table entries = 2 + subdirectories (nodes_of table) entries

-- what a directory of these entries lists
abbrev pub loaded_listing : ℕ → List DirEntry → Listing
loaded_listing parent entries = record { parent = Some parent; greatest = greatest_of entries; entries = entries }
