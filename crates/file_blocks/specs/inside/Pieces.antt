-- A piece of bytes that is written into one block.
use Rattle.std.specs.Prelude.{◌≡◌, ℕ, ◌+◌, ◌≤◌, List, Option, Some, None, is_some, if◌then◌else◌}
use Rattle.std.specs.FinMap.{get, insert, len}
use Rattle.kernel_core.specs.FileContent.{Blocks, block_or_zeros}
use Rattle.paged_bytes.specs.Pages.{put_at}

-- the blocks with a piece in one of them, which is kept from then on
abbrev pub with_piece : Blocks → ℕ → ℕ → List ℕ → Blocks
with_piece blocks index place piece = insert blocks index (put_at (block_or_zeros (get blocks index)) place piece)

-- the blocks with a piece in one of them, where it is kept
abbrev pub with_kept_piece : Blocks → ℕ → Option (List ℕ) → ℕ → List ℕ → Blocks
with_kept_piece blocks index None place piece = blocks
with_kept_piece blocks index (Some block) place piece = insert blocks index (put_at block place piece)

-- how many blocks a piece in this one takes anew
abbrev pub taken_by : Option (List ℕ) → ℕ
taken_by block = if is_some block then 0 else 1

-- What a write of a piece does where `spare` blocks may be taken anew: with `left` the piece is written and so many may still
-- be taken; with None the block is not kept, none may be taken, and nothing changes.
abbrev pub WritesPiece : Option ℕ → Blocks → Blocks → ℕ → ℕ → List ℕ → ℕ → Type 0
WritesPiece None before after index place piece spare =
    (after ≡ before) × (get before index ≡ None) × (spare ≡ 0)
WritesPiece (Some left) before after index place piece spare =
    (after ≡ with_piece before index place piece) × (taken_by (get before index) + left ≡ spare) × (len after + left ≤ len before + spare)
