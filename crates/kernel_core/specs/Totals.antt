-- What all nodes of a file system use together, against its limits (this project's own).
use Rattle.std.specs.Prelude.{ℕ, ◌-◌, Bool, List, [], length, sum_by, nat_le}
use Rattle.std.specs.FinMap.{values, len}
use Rattle.kernel_core.specs.FileContent.{kept_blocks}
use Rattle.kernel_core.specs.Nodes.{Nodes, Inode, NodeContent, File, Directory, Link}
use Rattle.kernel_core.specs.ValidTree.{node_limit, block_limit, entry_limit}
use Rattle.kernel_core.specs.declared.tree.DirEntry.{DirEntry}

abbrev pub content_entries : NodeContent → List DirEntry
content_entries (File content) = []
content_entries (Directory listing) = listing.entries
content_entries (Link target) = []

abbrev pub content_blocks : NodeContent → ℕ
content_blocks (File content) = kept_blocks content
content_blocks (Directory listing) = 0
content_blocks (Link target) = 0

-- a number of each node, added up over all
unfoldable pub total : (Inode → ℕ) → Nodes → ℕ
total amount nodes = sum_by amount (values nodes)

-- the entries in all directories
abbrev pub live_entries : Nodes → ℕ
live_entries nodes = total (λ i. length (content_entries i.content)) nodes

-- the blocks that all files keep
abbrev pub live_blocks : Nodes → ℕ
live_blocks nodes = total (λ i. content_blocks i.content) nodes

abbrev pub nodes_full : Nodes → Bool
nodes_full nodes = nat_le node_limit (len nodes)

abbrev pub entries_full : Nodes → Bool
entries_full nodes = nat_le entry_limit (live_entries nodes)

-- how many blocks may still be taken
abbrev pub spare_blocks : Nodes → ℕ
spare_blocks nodes = block_limit - live_blocks nodes
