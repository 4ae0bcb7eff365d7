-- An image read from its first byte to its last, with the first rule that fails on the way: the rules 1 to 10, 13 and 14 of
-- this project's own format. A reader takes the length of the whole file and the bytes that are left, and gives a value and
-- the bytes behind it; where it reads one of many, it also takes those before.
use Rattle.std.specs.Prelude.{ℕ, zero, suc, ◌+◌, ◌-◌, ◌*◌, Bool, true, not, ◌&&◌, ◌||◌, ◌==◌, nat_lt, List, [], ◌∷◌, ◌++◌, length, map, take, drop, slice_get, option_map, Option, Some, None, Result, Ok, Err, if◌then◌else◌}
use Rattle.std.specs.List.{list_any}
use Rattle.std.specs.Int.{w64, cast_signed}
use Rattle.std.specs.Str.{bytes_eq}
use Rattle.byteorder.specs.Endian.{big_number}
use Rattle.kernel_core.specs.declared.tree.Tree.{Tree}
use Rattle.kernel_core.specs.declared.tree.Node.{Node}
use Rattle.kernel_core.specs.declared.tree.Kind.{Kind}
use Rattle.kernel_core.specs.declared.tree.Kind.TheVariants.{File, Dir, Link}
use Rattle.kernel_core.specs.declared.tree.Block.{Block}
use Rattle.kernel_core.specs.declared.tree.DirEntry.{DirEntry}
use Rattle.kernel_core.specs.FileContent.{block_size, greatest_size}
use Rattle.kernel_core.specs.ValidTree.{node_limit, block_limit, entry_limit, greatest_number, greatest_cookie, greatest_mode, root, is_dots, is_no_name_byte, all_blocks, all_entries}
use Rattle.fs_image.specs.declared.refusal.ImageRule.{ImageRule}
use Rattle.fs_image.specs.declared.refusal.ImageRule.TheVariants as rule
use Rattle.fs_image.specs.declared.refusal.ImageRefusal.{ImageRefusal}
use Rattle.fs_image.specs.Refusal.{refused}
use Rattle.fs_image.specs.Text.{magic}

infixl 10 ◌>>=◌
abbrev pub ◌>>=◌ : {A B : Type 0} → Result A ImageRefusal → (A → Result B ImageRefusal) → Result B ImageRefusal
(Ok x) >>= next = next x
(Err refusal) >>= next = Err refusal

-- Fields

-- the offset of what is left of a file
abbrev pub place : ℕ → List ℕ → ℕ
place file rest = file - length rest

-- so many bytes; rule 1 where fewer are left
abbrev pub bytes_at : ℕ → ℕ → List ℕ → Result (List ℕ × List ℕ) ImageRefusal
bytes_at count file rest =
    if nat_lt (length rest) count then Err (refused rule.Short file) else Ok (take count rest, drop count rest)

-- a number in so many bytes
abbrev pub number_at : ℕ → ℕ → List ℕ → Result (ℕ × List ℕ) ImageRefusal
number_at width file rest =
    if nat_lt (length rest) width then Err (refused rule.Short file) else Ok (big_number width rest, drop width rest)

-- a number of which a rule is kept
abbrev pub number_by : ImageRule → (ℕ → Bool) → ℕ → ℕ → List ℕ → Result (ℕ × List ℕ) ImageRefusal
number_by broken breaks width file rest = do
  number ← number_at width file rest
  if breaks number.0 then Err (refused broken (place file rest)) else Ok number

-- bytes of which a rule is kept
abbrev pub bytes_by : ImageRule → (List ℕ → Bool) → ℕ → ℕ → List ℕ → Result (List ℕ × List ℕ) ImageRefusal
bytes_by broken breaks count file rest = do
  bytes ← bytes_at count file rest
  if breaks bytes.0 then Err (refused broken (place file rest)) else Ok bytes

-- so many of a kind, one after the other: each is read beside those before
unfoldable pub many : {A : Type 0} → (List A → ℕ → List ℕ → Result (A × List ℕ) ImageRefusal) → ℕ → List A → ℕ → List ℕ → Result (List A × List ℕ) ImageRefusal
many read zero before file rest = Ok (before, rest)
many read (suc more) before file rest = do
  next ← read before file rest
  many read more (before ++ next.0 ∷ []) file next.1

-- Files

-- a number rises above the one before, where there is one
abbrev pub rises : Option ℕ → ℕ → Bool
rises None number = true
rises (Some before) number = nat_lt before number

abbrev pub last_index : List Block → Option ℕ
last_index blocks = option_map (λ b. b.index) (slice_get blocks (length blocks - 1))

-- rule 7 at an index: not rising, or not below the size
abbrev pub breaks_index : ℕ → Option ℕ → ℕ → Bool
breaks_index size before index = not (rises before index) || not (nat_lt (index * block_size) size)

-- rule 8 at a block: a byte past the size isn't 0
abbrev pub breaks_tail : ℕ → ℕ → List ℕ → Bool
breaks_tail size index bytes = list_any (λ byte. not (byte == 0)) (drop (size - index * block_size) bytes)

unfoldable pub block_at : ℕ → List Block → ℕ → List ℕ → Result (Block × List ℕ) ImageRefusal
block_at size before file rest = do
  index ← number_by rule.Size (breaks_index size (last_index before)) 4 file rest
  bytes ← bytes_by rule.Tail (breaks_tail size index.0) block_size file index.1
  Ok (record { index = index.0; bytes = bytes.0 }, bytes.1)

-- `blocks` is the number of blocks of the files before; rule 13 is at the count with which the sum passes the limit
unfoldable pub file_at : ℕ → ℕ → List ℕ → Result (Kind × List ℕ) ImageRefusal
file_at blocks file rest = do
  size ← number_by rule.Size (λ n. nat_lt greatest_size n) 8 file rest
  count ← number_by rule.Limit (λ n. nat_lt block_limit (blocks + n)) 4 file size.1
  kept ← many (block_at size.0) count.0 [] file count.1
  Ok (File size.0 kept.0, kept.1)

-- Directories

abbrev pub last_cookie : List DirEntry → Option ℕ
last_cookie entries = option_map (λ e. e.cookie) (slice_get entries (length entries - 1))

-- rule 9: below 3, above 2^31 - 1, or not rising
abbrev pub breaks_cookie : Option ℕ → ℕ → Bool
breaks_cookie before cookie = nat_lt cookie 3 || (nat_lt greatest_cookie cookie || not (rises before cookie))

abbrev pub is_taken : List DirEntry → List ℕ → Bool
is_taken entries name = list_any (bytes_eq name) (map (λ e. e.name) entries)

-- rule 10 at a name: `.`, `..`, with `/` or NUL, or there already
abbrev pub breaks_name : List DirEntry → List ℕ → Bool
breaks_name before name = is_dots name || (list_any is_no_name_byte name || is_taken before name)

unfoldable pub entry_at : List DirEntry → ℕ → List ℕ → Result (DirEntry × List ℕ) ImageRefusal
entry_at before file rest = do
  cookie ← number_by rule.Cookie (breaks_cookie (last_cookie before)) 4 file rest
  count ← number_by rule.Name (λ n. n == 0) 1 file cookie.1
  name ← bytes_by rule.Name (breaks_name before) count.0 file count.1
  node ← number_at 8 file name.1
  Ok (record { cookie = cookie.0; name = name.0; node = node.0 }, node.1)

-- `entries` is the number of entries of the directories before
unfoldable pub dir_at : ℕ → ℕ → List ℕ → Result (Kind × List ℕ) ImageRefusal
dir_at entries file rest = do
  count ← number_by rule.Limit (λ n. nat_lt entry_limit (entries + n)) 4 file rest
  held ← many entry_at count.0 [] file count.1
  Ok (Dir held.0, held.1)

-- Links: rule 10 at the length where it is 0 or above 4095, else at a target with NUL
unfoldable pub link_at : ℕ → List ℕ → Result (Kind × List ℕ) ImageRefusal
link_at file rest = do
  count ← number_by rule.Name (λ n. (n == 0) || nat_lt 4095 n) 2 file rest
  target ← bytes_by rule.Name (list_any (λ byte. byte == 0)) count.0 file count.1
  Ok (Link target.0, target.1)

-- Nodes

abbrev pub last_number : List Node → Option ℕ
last_number nodes = option_map (λ n. n.number) (slice_get nodes (length nodes - 1))

-- a number follows the one before: the first is 1, and they rise
abbrev pub follows : Option ℕ → ℕ → Bool
follows None number = number == root
follows (Some before) number = nat_lt before number

-- rule 4: not rising, the first isn't 1, or above 2^63 - 1
abbrev pub breaks_number : Option ℕ → ℕ → Bool
breaks_number before number = not (follows before number) || nat_lt greatest_number number

-- rule 5: unknown, or node 1 isn't a directory
abbrev pub breaks_kind : ℕ → ℕ → Bool
breaks_kind number kind = nat_lt kind 1 || (nat_lt 3 kind || ((number == root) && not (kind == 2)))

-- what stands behind a node's front, by its kind
abbrev pub kind_at : ℕ → ℕ → ℕ → ℕ → List ℕ → Result (Kind × List ℕ) ImageRefusal
kind_at kind blocks entries file rest =
    if kind == 1 then file_at blocks file rest else if kind == 2 then dir_at entries file rest else link_at file rest

unfoldable pub node_at : List Node → ℕ → List ℕ → Result (Node × List ℕ) ImageRefusal
node_at before file rest = do
  number ← number_by rule.Number (breaks_number (last_number before)) 8 file rest
  kind ← number_by rule.Kind (breaks_kind number.0) 1 file number.1
  mode ← number_by rule.Mode (λ n. nat_lt greatest_mode n) 2 file kind.1
  mtime ← number_at 8 file mode.1
  held ← kind_at kind.0 (all_blocks before) (all_entries before) file mtime.1
  Ok (record { number = number.0; mode = mode.0; mtime = cast_signed w64 mtime.0; kind = held.0 }, held.1)

-- The whole file

-- rule 14: bytes follow
abbrev pub whole : ℕ → List Node → List ℕ → Result Tree ImageRefusal
whole file nodes [] = Ok (record { nodes = nodes })
whole file nodes (byte ∷ rest) = Err (refused rule.Rest (place file (byte ∷ rest)))

-- the tree that a file says, or the first rule that fails as it is read
unfoldable pub reading_of : List ℕ → Result Tree ImageRefusal
reading_of bytes =
    let file = length bytes in do
      front ← bytes_by rule.Magic (λ found. not (bytes_eq found magic)) 8 file bytes
      count ← number_by rule.Count (λ n. (n == 0) || nat_lt node_limit n) 4 file front.1
      nodes ← many node_at count.0 [] file count.1
      whole file nodes.0 nodes.1
