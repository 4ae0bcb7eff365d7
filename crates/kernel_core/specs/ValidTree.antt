-- Which file trees there are: what each node may be, and that all nodes hang together as one tree with its root at node 1.
-- (inode(7), path_resolution(7), symlink(7); the limits and the numbers are this project's own.)
use Rattle.std.specs.Prelude.{◌≡◌, ◌≢◌, ℕ, zero, suc, ◌≤◌, Bool, true, false, List, [], length, map, slice_get, All, Contains, Some, sum_by, count_by, ◌==◌, ◌||◌, codes, ◌<◌, slice_index, FitsSigned}
use Rattle.std.specs.Int.{w64}
use Rattle.std.specs.List.{IsDistinct, list_any}
use Rattle.std.specs.List.Sorted.{IsStrictlySortedBy}
use Rattle.std.specs.Ordering.{nat_cmp}
use Rattle.std.specs.Str.{bytes_eq}
use Rattle.kernel_core.specs.FileContent.{IsBlock, greatest_size}
use Rattle.kernel_core.specs.declared.tree.Tree.{Tree}
use Rattle.kernel_core.specs.declared.tree.Node.{Node}
use Rattle.kernel_core.specs.declared.tree.Kind.{Kind}
use Rattle.kernel_core.specs.declared.tree.Kind.TheVariants.{File, Dir, Link}
use Rattle.kernel_core.specs.declared.tree.Block.{Block}
use Rattle.kernel_core.specs.declared.tree.DirEntry.{DirEntry}

-- Limits

abbrev pub node_limit : ℕ
node_limit = 65536

-- blocks that are kept, in all files together (256 MiB)
abbrev pub block_limit : ℕ
block_limit = 65536

-- entries, in all directories together
abbrev pub entry_limit : ℕ
entry_limit = 131072

abbrev pub greatest_number : ℕ
greatest_number = 9223372036854775807

abbrev pub greatest_cookie : ℕ
greatest_cookie = 2147483647

-- the twelve mode bits, 07777
abbrev pub greatest_mode : ℕ
greatest_mode = 4095

-- the number of the root
abbrev pub root : ℕ
root = 1

-- One node

-- `.` and `..`
abbrev pub is_dots : List ℕ → Bool
is_dots name = bytes_eq name (codes ".") || bytes_eq name (codes "..")

-- a byte that no name has: `/` and NUL
abbrev pub is_no_name_byte : ℕ → Bool
is_no_name_byte byte = (byte == 47) || (byte == 0)

-- a name that an entry may have
pub record IsName (name : List ℕ) : Type 0 where
  pub are_bytes : (place : ℕ) → slice_index name place < 256
  pub some : 1 ≤ length name
  pub short : length name ≤ 255
  pub no_dots : is_dots name ≡ false
  pub plain : list_any is_no_name_byte name ≡ false

-- a target that a symbolic link may have
pub record IsTarget (target : List ℕ) : Type 0 where
  pub are_bytes : (place : ℕ) → slice_index target place < 256
  pub some : 1 ≤ length target
  pub short : length target ≤ 4095
  pub plain : list_any (λ byte. byte == 0) target ≡ false

pub record IsEntry (entry : DirEntry) : Type 0 where
  pub low : 3 ≤ entry.cookie
  pub high : entry.cookie ≤ greatest_cookie
  pub name : IsName entry.name

-- entries that a directory may have: by rising cookie, and no name twice
pub record AreEntries (entries : List DirEntry) : Type 0 where
  pub each : All IsEntry entries
  pub rising : IsStrictlySortedBy nat_cmp (map (λ e. e.cookie) entries)
  pub distinct : IsDistinct bytes_eq (map (λ e. e.name) entries)

-- blocks that a file of this size may keep: by rising index
pub record AreBlocks (size : ℕ) (blocks : List Block) : Type 0 where
  pub each : All (λ b. IsBlock size b.index b.bytes) blocks
  pub rising : IsStrictlySortedBy nat_cmp (map (λ b. b.index) blocks)

abbrev pub IsKind : Kind → Type 0
IsKind (File size blocks) = (size ≤ greatest_size) × AreBlocks size blocks
IsKind (Dir entries) = AreEntries entries
IsKind (Link target) = IsTarget target

-- the time of modification is a signed number of 64 bits
pub record IsNode (node : Node) : Type 0 where
  pub low : 1 ≤ node.number
  pub high : node.number ≤ greatest_number
  pub mode : node.mode ≤ greatest_mode
  pub mtime : FitsSigned w64 node.mtime
  pub kind : IsKind node.kind

-- All nodes

abbrev pub is_dir : Kind → Bool
is_dir (File size blocks) = false
is_dir (Dir entries) = true
is_dir (Link target) = false

abbrev pub entries_of : Kind → List DirEntry
entries_of (File size blocks) = []
entries_of (Dir entries) = entries
entries_of (Link target) = []

abbrev pub blocks_of : Kind → List Block
blocks_of (File size blocks) = blocks
blocks_of (Dir entries) = []
blocks_of (Link target) = []

abbrev pub numbers : List Node → List ℕ
numbers nodes = map (λ n. n.number) nodes

abbrev pub all_entries : List Node → ℕ
all_entries nodes = sum_by (λ n. length (entries_of n.kind)) nodes

abbrev pub all_blocks : List Node → ℕ
all_blocks nodes = sum_by (λ n. length (blocks_of n.kind)) nodes

-- how many entries name the node of a number
abbrev pub names_in : List DirEntry → ℕ → ℕ
names_in entries number = count_by (λ e. e.node == number) entries

abbrev pub times_named : List Node → ℕ → ℕ
times_named nodes number = sum_by (λ n. names_in (entries_of n.kind) number) nodes

-- A node other than the root: a directory is named exactly once, a file or a link at least once. The root is not named.
abbrev pub IsNamedRightly : List Node → Node → Type 0
IsNamedRightly nodes node =
    (node.number ≡ root → times_named nodes node.number ≡ 0)
    × (node.number ≢ root → is_dir node.kind ≡ true → times_named nodes node.number ≡ 1)
    × (is_dir node.kind ≡ false → 1 ≤ times_named nodes node.number)

-- a node that `steps` names lead to from the root
abbrev pub IsReachedIn : List Node → ℕ → ℕ → Type 0
IsReachedIn nodes zero number = number ≡ root
IsReachedIn nodes (suc steps) number =
    (parent : Node) × Contains nodes parent × (1 ≤ names_in (entries_of parent.kind) number) × IsReachedIn nodes steps parent.number

abbrev pub IsReached : List Node → ℕ → Type 0
IsReached nodes number = (steps : ℕ) × IsReachedIn nodes steps number

-- the first node is the root, and a directory
abbrev pub BeginsWithRoot : List Node → Type 0
BeginsWithRoot nodes = (first : Node) × (slice_get nodes 0 ≡ Some first) × (first.number ≡ root) × (is_dir first.kind ≡ true)

pub record IsValidTree (tree : Tree) : Type 0 where
  pub begins : BeginsWithRoot tree.nodes
  pub count : length tree.nodes ≤ node_limit
  pub rising : IsStrictlySortedBy nat_cmp (numbers tree.nodes)
  pub each : All IsNode tree.nodes
  pub blocks : all_blocks tree.nodes ≤ block_limit
  pub entries : all_entries tree.nodes ≤ entry_limit
  pub targets : All (λ n. All (λ e. Contains (numbers tree.nodes) e.node) (entries_of n.kind)) tree.nodes
  pub named : All (IsNamedRightly tree.nodes) tree.nodes
  pub reached : All (λ n. IsReached tree.nodes n.number) tree.nodes
