-- The content of a regular file (inode(7), read(2), write(2), truncate(2)): its size in bytes, and the blocks of 4096 bytes
-- that it keeps, by their indexes. A byte below the size of which no block is kept is 0, as in a sparse file (lseek(2)).
use Rattle.std.specs.Prelude.{◌≡◌, ℕ, zero, suc, ◌+◌, ◌-◌, ◌*◌, ◌/◌, ◌%◌, ◌<◌, ◌≤◌, min, max, List, [], ◌∷◌, ◌++◌, length, take, drop, replicate, slice_index, slice_set, Option, Some, None, is_some, nat_lt, nat_le, if◌then◌else◌, refl}
use Rattle.std.specs.Coded.{Coded, code_by, coded×, coded_ℕ, coded_list}
use Rattle.std.specs.Ordering.{nat_cmp}
use Rattle.std.specs.FinMap.{FinMap, code, get, insert, empty, retain_keys, len}

-- the number of bytes of a block
abbrev pub block_size : ℕ
block_size = 4096

-- the greatest size of a file, 2^44 bytes (this project's own)
abbrev pub greatest_size : ℕ
greatest_size = 17592186044416

abbrev pub Blocks : Type 0
Blocks = FinMap nat_cmp (List ℕ)

pub record FileContent : Type 0 where
  pub size : ℕ
  pub blocks : Blocks

abbrev pub file_content_code : Coded FileContent
file_content_code =
    code_by (ℕ × Blocks) (coded× coded_ℕ (code coded_ℕ (coded_list coded_ℕ)))
    (λ c. (c.size, c.blocks)) (λ t. record { size = t.0; blocks = t.1 }) (λ _. refl)

-- no byte and no block
abbrev pub no_content : FileContent
no_content = record { size = 0; blocks = empty }

-- A block that a file of this size may keep: its first byte lies in the file, it has 4096 bytes, and a byte that lies past
-- the file's end is 0.
pub record IsBlock (size : ℕ) (index : ℕ) (block : List ℕ) : Type 0 where
  pub below : index * block_size < size
  pub whole : length block ≡ block_size
  pub are_bytes : (place : ℕ) → slice_index block place < 256
  pub tail : (place : ℕ) → size ≤ index * block_size + place → slice_index block place ≡ 0

-- content that a file may have
pub record IsContent (content : FileContent) : Type 0 where
  pub small : content.size ≤ greatest_size
  pub blocks : (index : ℕ) (block : List ℕ) → get content.blocks index ≡ Some block → IsBlock content.size index block

-- how many blocks are kept
abbrev pub kept_blocks : FileContent → ℕ
kept_blocks content = len content.blocks

-- Reading

-- the byte at a place of a block, and 0 where it is not kept
abbrev pub block_byte : Option (List ℕ) → ℕ → ℕ
block_byte None place = 0
block_byte (Some block) place = slice_index block place

-- the byte at a place of the file
unfoldable pub byte_at : Blocks → ℕ → ℕ
byte_at blocks at = block_byte (get blocks (at / block_size)) (at % block_size)

-- the `count` bytes from a place on
unfoldable pub bytes_at : Blocks → ℕ → ℕ → List ℕ
bytes_at blocks at zero = []
bytes_at blocks at (suc count) = byte_at blocks at ∷ bytes_at blocks (at + 1) count

-- how many bytes a read of `count` bytes at a place gives: those before the file's end
abbrev pub readable : FileContent → ℕ → ℕ → ℕ
readable content at count = min count (content.size - at)

-- a buffer after a read into it: the bytes stand at its beginning, and the rest is as it was
abbrev pub read_into : FileContent → ℕ → List ℕ → List ℕ
read_into content at buffer =
    let count = readable content at (length buffer) in bytes_at content.blocks at count ++ drop count buffer

-- Writing

unfoldable pub zero_block : List ℕ
zero_block = replicate block_size 0

abbrev pub block_or_zeros : Option (List ℕ) → List ℕ
block_or_zeros None = zero_block
block_or_zeros (Some block) = block

-- the blocks with a byte in its place
unfoldable pub with_byte : Blocks → ℕ → ℕ → Blocks
with_byte blocks at byte =
    insert blocks (at / block_size) (slice_set (block_or_zeros (get blocks (at / block_size))) (at % block_size) byte)

-- the blocks with the bytes written one after another from a place on
unfoldable pub with_bytes : Blocks → ℕ → List ℕ → Blocks
with_bytes blocks at [] = blocks
with_bytes blocks at (byte ∷ bytes) = with_bytes (with_byte blocks at byte) (at + 1) bytes

-- the size of a file of so many bytes after a write of `count` bytes at a place
abbrev pub size_with : ℕ → ℕ → ℕ → ℕ
size_with size at zero = size
size_with size at (suc count) = max size (at + suc count)

-- the content after a write of these bytes at a place; a write of no byte changes nothing
abbrev pub written : FileContent → ℕ → List ℕ → FileContent
written content at bytes = record {
  size = size_with content.size at (length bytes);
  blocks = with_bytes content.blocks at bytes;
}

-- how many of the `count` blocks from an index on are not kept
unfoldable pub absent_blocks : Blocks → ℕ → ℕ → ℕ
absent_blocks blocks first zero = 0
absent_blocks blocks first (suc count) =
    absent_blocks blocks first count + (if is_some (get blocks (first + count)) then 0 else 1)

-- how many blocks a write of `count` bytes at a place takes anew: those that its bytes lie in and that are not kept
abbrev pub new_blocks : Blocks → ℕ → ℕ → ℕ
new_blocks blocks at zero = 0
new_blocks blocks at (suc count) =
    absent_blocks blocks (at / block_size) ((at + count) / block_size - at / block_size + 1)

-- the length of the longest prefix of `count` bytes whose write takes at most `spare` blocks anew
unfoldable pub longest_write : Blocks → ℕ → ℕ → ℕ → ℕ
longest_write blocks at zero spare = 0
longest_write blocks at (suc count) spare =
    if nat_le (new_blocks blocks at (suc count)) spare then suc count else longest_write blocks at count spare

-- Another size

-- the blocks in which the bytes of one, where it is kept, are 0 from a place on
abbrev pub with_zero_tail : Blocks → ℕ → Option (List ℕ) → ℕ → Blocks
with_zero_tail blocks index None place = blocks
with_zero_tail blocks index (Some block) place = insert blocks index (take place block ++ replicate (block_size - place) 0)

-- the blocks that begin below a size, with each byte past it 0
abbrev pub cut : Blocks → ℕ → Blocks
cut blocks size =
    let kept = retain_keys blocks (λ index. nat_lt (index * block_size) size) in
    with_zero_tail kept (size / block_size) (get kept (size / block_size)) (size % block_size)

-- the content with another size: bytes below both sizes stay, and bytes that are added are 0
abbrev pub resized : FileContent → ℕ → FileContent
resized content size = record { size = size; blocks = cut content.blocks size }
