-- The text of a file tree, version 1 of this project's own format. Numbers stand high byte first.
use Rattle.std.specs.Prelude.{ℕ, List, ◌++◌, length, codes}
use Rattle.std.specs.List.{flat_map}
use Rattle.std.specs.Int.{w64, cast_unsigned}
use Rattle.byteorder.specs.Endian.{big_bytes}
use Rattle.kernel_core.specs.declared.tree.Tree.{Tree}
use Rattle.kernel_core.specs.declared.tree.Node.{Node}
use Rattle.kernel_core.specs.declared.tree.Kind.{Kind}
use Rattle.kernel_core.specs.declared.tree.Kind.TheVariants.{File, Dir, Link}
use Rattle.kernel_core.specs.declared.tree.Block.{Block}
use Rattle.kernel_core.specs.declared.tree.DirEntry.{DirEntry}

-- the first eight bytes: the format's name with its version, and a newline
abbrev pub magic : List ℕ
magic = codes "O32IMG1\n"

-- a block: index (4), and its 4096 bytes
abbrev pub block_text : Block → List ℕ
block_text block = big_bytes 4 block.index ++ block.bytes

-- an entry: cookie (4), length of the name (1), name, number of its node (8)
abbrev pub entry_text : DirEntry → List ℕ
entry_text entry = big_bytes 4 entry.cookie ++ (big_bytes 1 (length entry.name) ++ (entry.name ++ big_bytes 8 entry.node))

-- kind (1): 1 file, 2 directory, 3 link
abbrev pub kind_number : Kind → ℕ
kind_number (File size blocks) = 1
kind_number (Dir entries) = 2
kind_number (Link target) = 3

-- a file: size (8), count of blocks (4), blocks; a directory: count of entries (4), entries; a link: length (2), target
abbrev pub kind_text : Kind → List ℕ
kind_text (File size blocks) = big_bytes 8 size ++ (big_bytes 4 (length blocks) ++ flat_map block_text blocks)
kind_text (Dir entries) = big_bytes 4 (length entries) ++ flat_map entry_text entries
kind_text (Link target) = big_bytes 2 (length target) ++ target

-- the front of a node: number (8), kind (1), mode (2), time of modification (8, two's complement)
abbrev pub head_text : Node → List ℕ
head_text node =
    big_bytes 8 node.number ++ (big_bytes 1 (kind_number node.kind) ++ (big_bytes 2 node.mode ++ big_bytes 8 (cast_unsigned w64 node.mtime)))

-- a node: its front, and what its kind holds
abbrev pub node_text : Node → List ℕ
node_text node = head_text node ++ kind_text node.kind

-- a tree's nodes: the first bytes, count of nodes (4), nodes
abbrev pub tree_text : List Node → List ℕ
tree_text nodes = magic ++ (big_bytes 4 (length nodes) ++ flat_map node_text nodes)

unfoldable pub text_of : Tree → List ℕ
text_of tree = tree_text tree.nodes
