-- A file tree as the nodes of a file system, when a kernel begins with it, and the file tree that such nodes stand for.
use Rattle.std.specs.Prelude.{ℕ, ◌+◌, Bool, ◌&&◌, ◌==◌, ℤ, pos, ◌*ℤ◌, max, List, map, filter, fold, find, count_by, Option, Some, option_map, nat_lt, if◌then◌else◌}
use Rattle.std.specs.Int.{int_div_euclid}
use Rattle.std.specs.List.{list_any}
use Rattle.std.specs.FinMap.{entries, from_entries}
use Rattle.kernel_core.specs.Nodes.{Nodes, Inode, NodeContent, File, Directory, Link}
use Rattle.kernel_core.specs.ValidTree.{root, names_in, times_named, entries_of, is_dir}
use Rattle.kernel_core.specs.declared.tree.Tree.{Tree}
use Rattle.kernel_core.specs.declared.tree.Node.{Node}
use Rattle.kernel_core.specs.declared.tree.Kind.{Kind}
use Rattle.kernel_core.specs.declared.tree.Kind.TheVariants as kinds
use Rattle.kernel_core.specs.declared.tree.DirEntry.{DirEntry}

abbrev pub nanoseconds : ℤ → ℤ
nanoseconds seconds = seconds *ℤ pos 1_000_000_000

-- rounded down
abbrev pub whole_seconds : ℤ → ℤ
whole_seconds time = int_div_euclid time (pos 1_000_000_000)

-- A tree as nodes

-- the directory that names a node, and the root itself for the root
abbrev pub parent_in : List Node → ℕ → Option ℕ
parent_in nodes number =
    if number == root then Some root
    else option_map (λ n. n.number) (find (λ n. nat_lt 0 (names_in (entries_of n.kind) number)) nodes)

abbrev pub is_dir_in : List Node → ℕ → Bool
is_dir_in nodes number = list_any (λ n. (n.number == number) && is_dir n.kind) nodes

-- the greatest cookie of the entries, and 2 where there is none
abbrev pub greatest_of : List DirEntry → ℕ
greatest_of entries = fold max 2 (map (λ e. e.cookie) entries)

abbrev pub content_of : List Node → ℕ → Kind → NodeContent
content_of nodes number (kinds.File size blocks) = File (record { size = size; blocks = from_entries (map (λ b. (b.index, b.bytes)) blocks) })
content_of nodes number (kinds.Dir entries) =
    Directory (record { parent = parent_in nodes number; greatest = greatest_of entries; entries = entries })
content_of nodes number (kinds.Link target) = Link target

-- a file or a link counts its names, a directory 2 and its subdirectories
abbrev pub links_of : List Node → ℕ → Kind → ℕ
links_of nodes number (kinds.File size blocks) = times_named nodes number
links_of nodes number (kinds.Dir entries) = 2 + count_by (λ e. is_dir_in nodes e.node) entries
links_of nodes number (kinds.Link target) = times_named nodes number

-- all three times are the tree's, and nothing holds the node
abbrev pub loaded_inode : List Node → Node → Inode
loaded_inode nodes node = record {
  mode = node.mode;
  access = nanoseconds node.mtime;
  modified = nanoseconds node.mtime;
  changed = nanoseconds node.mtime;
  links = links_of nodes node.number node.kind;
  holds = 0;
  content = content_of nodes node.number node.kind;
}

unfoldable pub loaded : Tree → Nodes
loaded tree = from_entries (map (λ n. (n.number, loaded_inode tree.nodes n)) tree.nodes)

-- Nodes as a tree: those that have a name, which are those that are reached from the root, and the root

abbrev pub kind_of : NodeContent → Kind
kind_of (File content) = kinds.File content.size (map (λ b. record { index = b.0; bytes = b.1 }) (entries content.blocks))
kind_of (Directory listing) = kinds.Dir listing.entries
kind_of (Link target) = kinds.Link target

abbrev pub saved_node : ℕ → Inode → Node
saved_node number inode = record { number = number; mode = inode.mode; mtime = whole_seconds inode.modified; kind = kind_of inode.content }

unfoldable pub saved : Nodes → Tree
saved nodes = record { nodes = map (λ e. saved_node e.0 e.1) (filter (λ e. nat_lt 0 e.1.links) (entries nodes)) }
