use Rattle.std.proofs.Common.{◌≡◌, ◌-◌, []}
use Rattle.fs_image.specs.Reading.{block_at, many}
use Rattle.fs_image.proofs.files.blocks_at.Given as goal

-- what is left, behind the blocks so far, reads as all of it does
abbrev pub invariant-loop : goal.invariant-loop
invariant-loop l = many (block_at l.size) (l.count - l.counter) l.blocks.items l.file l.left ≡ many (block_at l.size) l.count [] l.file l.rest
