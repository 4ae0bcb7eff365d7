use Rattle.std.proofs.lemmas.Result.{err_from_is_err_and}
use Rattle.fs_image.specs.Reading.{block_at}
use Rattle.fs_image.proofs.Loops.{many-next, many-fails, many-done}
use Rattle.fs_image.proofs.files.blocks_at.Goals as goal

pub returns-in_err-block : goal.returns-in_err-block
returns-in_err-block c =
    let p = err_from_is_err_and c.from_residual.result c.from_residual.ensures.1 in
    rw (p.1, p.2) (many-fails (block_at c.args.size) c.in_err-block.field-0.0 c.args.count c.loop.counter c.loop.blocks.items c.as_slice.result.now c.args.file c.loop.left.now _ c.loop-test.true c.as_slice.ensures.value c.in_err-block.ensures c.loop.invariant)

pub loop-preserved : goal.loop-preserved
loop-preserved c =
    rw c.in_ok-push.ensures.items (many-next (block_at c.args.size) c.args.count c.loop.counter c.loop.blocks.items c.as_slice.result.now c.args.file c.loop.left.now c.in_ok-block.block c.in_ok-block.after.now _ c.loop-test.true c.as_slice.ensures.value c.in_ok-block.ensures c.loop.invariant)

pub returns : goal.returns
returns c = many-done (block_at c.args.size) c.args.count c.loop.counter c.loop.blocks.items c.args.file c.loop.left.now _ c.loop-test.false c.loop.invariant
