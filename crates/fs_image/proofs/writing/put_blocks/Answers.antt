use Rattle.std.proofs.lemmas.Result.{err_from_is_err_and}
use Rattle.fs_image.specs.Text.{block_text}
use Rattle.fs_image.proofs.Gains.{adds_fails}
use Rattle.fs_image.proofs.writing.put_blocks.Goals as goal

pub returns-in_err-put_block : goal.returns-in_err-put_block
returns-in_err-put_block c =
    let p = err_from_is_err_and c.from_residual.result c.from_residual.ensures.1 in
    rw p.1 (adds_fails block_text c.args.blocks.now c.loop-block.block-index c.block-item.result c.args.out.now.items c.loop-block.out.items c.put_block.new.out.items c.loop-block-test.true c.block-item.is c.loop-block.invariant c.in_err-put_block.ensures)
