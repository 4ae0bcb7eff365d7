use Rattle.std.proofs.Common.{◌≡◌, ◌-◌, map}
use Rattle.std.specs.FinMap.{entries}
use Rattle.file_blocks.proofs.Uses.{kept_below}
use Rattle.native_vfs.specs.inside.Saving.{block_of}
use Rattle.native_vfs.proofs.saving.saved_blocks.Given as goal

-- the blocks below the index are read
abbrev pub invariant-loop-index : goal.invariant-loop-index
invariant-loop-index l = l.blocks.items ≡ map block_of (entries (kept_below l.content.blocks l.from))

-- an index is below 2^32
abbrev pub decreases-loop-index : goal.decreases-loop-index
decreases-loop-index l = 4_294_967_297 - l.from
