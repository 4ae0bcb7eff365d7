-- What the soak program wrote to its file, as a file tree has it. The program is this project's own.
use Rattle.std.specs.Prelude.{ℕ, ◌-◌, ◌/◌, ◌%◌, List, [], ◌∷◌, Option, Some, None, ◌==◌, if◌then◌else◌, codes, find, map, nat_lt, option_map}
use Rattle.std.specs.Int.{w32, from_be_bytes}
use Rattle.kernel_core.specs.FileContent.{block_byte, block_size}
use Rattle.kernel_core.specs.Nodes.{entry_named}
use Rattle.kernel_core.specs.ValidTree.{entries_of, root}
use Rattle.kernel_core.specs.declared.tree.Block.{Block}
use Rattle.kernel_core.specs.declared.tree.DirEntry.{DirEntry}
use Rattle.kernel_core.specs.declared.tree.Kind.{Kind}
use Rattle.kernel_core.specs.declared.tree.Kind.TheVariants.{File, Dir, Link}
use Rattle.kernel_core.specs.declared.tree.Node.{Node}
use Rattle.kernel_core.specs.declared.tree.Tree.{Tree}
use Rattle.soak_ends.specs.declared.written.Written.{Written}

-- the byte at a place of a file with these blocks: 0 where its block is not kept
abbrev pub byte_in : List Block → ℕ → ℕ
byte_in blocks place =
    block_byte (option_map (λ b. b.bytes) (find (λ b. b.index == place / block_size) blocks)) (place % block_size)

-- the last four bytes of a file of so many as a number, high byte first
abbrev pub last_word : ℕ → List Block → ℕ
last_word size blocks = from_be_bytes w32 (map (byte_in blocks) ((size - 4) ∷ (size - 3) ∷ (size - 2) ∷ (size - 1) ∷ []))

-- of a file: how many bytes it has, and its last word; none where it has fewer than four bytes
abbrev pub written_as : Kind → Option Written
written_as (File size blocks) = if nat_lt size 4 then None else Some (record { bytes = size; sum = last_word size blocks })
written_as (Dir entries) = None
written_as (Link target) = None

-- what the node of a number is
abbrev pub kind_at : List Node → ℕ → Option Kind
kind_at nodes number = option_map (λ n. n.kind) (find (λ n. n.number == number) nodes)

abbrev pub entries_at : Option Kind → List DirEntry
entries_at None = []
entries_at (Some kind) = entries_of kind

abbrev pub written_by : Option Kind → Option Written
written_by None = None
written_by (Some kind) = written_as kind

-- the node that the name `s` leads to from a directory
abbrev pub number_in : List DirEntry → Option ℕ
number_in entries = option_map (λ e. e.node) (entry_named entries (codes "s"))

abbrev pub written_at : List Node → Option ℕ → Option Written
written_at nodes None = None
written_at nodes (Some number) = written_by (kind_at nodes number)

-- what the file `/s` of a tree has; none where no file of at least one word has that name
abbrev pub written_in : Tree → Option Written
written_in tree = written_at tree.nodes (number_in (entries_at (kind_at tree.nodes root)))
