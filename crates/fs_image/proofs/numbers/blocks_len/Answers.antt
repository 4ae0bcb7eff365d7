use Rattle.std.proofs.Common.{arith, sym}
use Rattle.fs_image.proofs.Lengths.{blocks_length}
use Rattle.fs_image.proofs.numbers.blocks_len.Goals as goal

pub overflow_mul-result : goal.overflow_mul-result
overflow_mul-result c = let e = blocks_length c.args.blocks.now c.requires.whole in omega (arith, e, c.requires.short)

pub returns : goal.returns
returns c = sym (blocks_length c.args.blocks.now c.requires.whole)
