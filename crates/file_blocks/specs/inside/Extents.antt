-- Extents: blocks that are kept one after another, by the index of the first of them, and the blocks that they keep together.
use Rattle.std.specs.Prelude.{◌≡◌, ℕ, zero, suc, ◌+◌, ◌-◌, ◌<◌, ◌≤◌, ◌^◌, List, [], ◌∷◌, ◌++◌, length, take, replicate, slice_get, slice_set, Option, Some, None, IsSome}
use Rattle.std.specs.Ordering.{nat_cmp}
use Rattle.std.specs.FinMap.{FinMap, get, insert, remove, empty}
use Rattle.kernel_core.specs.FileContent.{Blocks, block_size}
use Rattle.paged_bytes.specs.Pages.{put_at}

abbrev pub Extents : Type 0
Extents = FinMap nat_cmp (List (List ℕ))

-- Which extent an index belongs to

-- the extent that begins last of those that begin up to an index
pub record IsLastUpTo (extents : Extents) (index : ℕ) (first : ℕ) (blocks : List (List ℕ)) : Type 0 where
  pub up_to : first ≤ index
  pub there : get extents first ≡ Some blocks
  pub none_between : (other : ℕ) → first < other → other ≤ index → get extents other ≡ None

-- no extent begins up to an index
abbrev pub NoneUpTo : Extents → ℕ → Type 0
NoneUpTo extents index = (other : ℕ) → other ≤ index → get extents other ≡ None

-- the extent that begins first of those that begin from an index on
pub record IsNextFrom (extents : Extents) (index : ℕ) (first : ℕ) (blocks : List (List ℕ)) : Type 0 where
  pub from_there : index ≤ first
  pub there : get extents first ≡ Some blocks
  pub none_before : (other : ℕ) → index ≤ other → other < first → get extents other ≡ None

-- no extent begins from an index on
abbrev pub NoneNextFrom : Extents → ℕ → Type 0
NoneNextFrom extents index = (other : ℕ) → index ≤ other → get extents other ≡ None

-- What the extents keep

-- the block of an index, where the extent that begins at `first` is the one for it, or where no extent begins there
abbrev pub block_of : ℕ → ℕ → Option (List (List ℕ)) → Option (List ℕ) → Option (List ℕ)
block_of index first None before = before
block_of index first (Some blocks) before = slice_get blocks (index - first)

-- the block of an index, where extents that begin up to `first` are asked, from the last one down
unfoldable pub block_up_to : Extents → ℕ → ℕ → Option (List ℕ)
block_up_to extents index zero = block_of index zero (get extents zero) None
block_up_to extents index (suc first) = block_of index (suc first) (get extents (suc first)) (block_up_to extents index first)

-- the block that the extents keep at an index
abbrev pub block_at : Extents → ℕ → Option (List ℕ)
block_at extents index = block_up_to extents index index

abbrev pub with_block : Blocks → ℕ → Option (List ℕ) → Blocks
with_block blocks index None = blocks
with_block blocks index (Some block) = insert blocks index block

-- the blocks that the extents keep below an index
unfoldable pub blocks_below : Extents → ℕ → Blocks
blocks_below extents zero = empty
blocks_below extents (suc index) = with_block (blocks_below extents index) index (block_at extents index)

-- the blocks that the extents keep; an index is below 2^32
unfoldable pub blocks_in : Extents → Blocks
blocks_in extents = blocks_below extents (2 ^ 32)

-- Extents as a file keeps them: each has a block, no two overlap or touch, and the last ends by the greatest size.
pub record AreExtents (extents : Extents) : Type 0 where
  pub filled : (first : ℕ) (blocks : List (List ℕ)) → get extents first ≡ Some blocks → 0 < length blocks
  pub apart : (first : ℕ) (blocks : List (List ℕ)) (next : ℕ) → get extents first ≡ Some blocks → first < next → IsSome (get extents next)
      → first + length blocks < next
  pub small : (first : ℕ) (blocks : List (List ℕ)) → get extents first ≡ Some blocks → first + length blocks ≤ 2 ^ 32

-- Changes

abbrev pub blocks_or_none : Option (List (List ℕ)) → List (List ℕ)
blocks_or_none None = []
blocks_or_none (Some blocks) = blocks

-- the blocks of the extent that begins at an index, and none where there is no such extent
abbrev pub blocks_from : Extents → ℕ → List (List ℕ)
blocks_from extents first = blocks_or_none (get extents first)

-- the place of a block that is kept: where its extent begins, and its number there
pub record IsSpot (extents : Extents) (index : ℕ) (first : ℕ) (number : ℕ) : Type 0 where
  pub last : IsLastUpTo extents index first (blocks_from extents first)
  pub place : first + number ≡ index
  pub inside : number < length (blocks_from extents first)

-- the extent that begins at `first` ends just before an index
pub record EndsBefore (extents : Extents) (index : ℕ) (first : ℕ) : Type 0 where
  pub last : IsLastUpTo extents index first (blocks_from extents first)
  pub ends : first + length (blocks_from extents first) ≡ index

-- no extent ends just before an index
abbrev pub NoneEndsBefore : Extents → ℕ → Type 0
NoneEndsBefore extents index =
    (first : ℕ) (blocks : List (List ℕ)) → IsLastUpTo extents index first blocks → first + length blocks ≡ index → ⊥

abbrev pub changed_at : List (List ℕ) → ℕ → Option (List ℕ) → (List ℕ → List ℕ) → List (List ℕ)
changed_at blocks number None change = blocks
changed_at blocks number (Some block) change = slice_set blocks number (change block)

-- the blocks with a piece in the one of this number, from a place on
abbrev pub with_piece_at : List (List ℕ) → ℕ → ℕ → List ℕ → List (List ℕ)
with_piece_at blocks number place piece = changed_at blocks number (slice_get blocks number) (λ block. put_at block place piece)

-- the blocks with zeros from a place on in the one of this number
abbrev pub with_zeros_at : List (List ℕ) → ℕ → ℕ → List (List ℕ)
with_zeros_at blocks number place =
    changed_at blocks number (slice_get blocks number) (λ block. take place block ++ replicate (block_size - place) 0)

abbrev pub without_last : List (List ℕ) → List (List ℕ)
without_last blocks = take (length blocks - 1) blocks

-- the extents with other blocks at an index where one begins
abbrev pub replaced : Extents → ℕ → Option (List (List ℕ)) → List (List ℕ) → Extents
replaced extents first None blocks = extents
replaced extents first (Some old) blocks = insert extents first blocks

-- the extents in which one has some blocks, then one more, and then those of the extent that begins at `next`, where there is one
abbrev pub joined : Extents → ℕ → List (List ℕ) → List ℕ → ℕ → Extents
joined extents first blocks block next = insert (remove extents next) first (blocks ++ block ∷ blocks_from extents next)
