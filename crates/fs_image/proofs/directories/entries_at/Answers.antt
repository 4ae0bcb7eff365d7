use Rattle.std.proofs.lemmas.Result.{err_from_is_err_and}
use Rattle.fs_image.specs.Reading.{entry_at}
use Rattle.fs_image.proofs.Loops.{many-next, many-fails, many-done}
use Rattle.fs_image.proofs.directories.entries_at.Goals as goal

pub returns-in_err-entry : goal.returns-in_err-entry
returns-in_err-entry c =
    let p = err_from_is_err_and c.from_residual.result c.from_residual.ensures.1 in
    rw (p.1, p.2) (many-fails entry_at c.in_err-entry.field-0.0 c.args.count c.loop.counter c.loop.entries.items c.as_slice.result.now c.args.file c.loop.left.now _ c.loop-test.true c.as_slice.ensures.value c.in_err-entry.ensures.entry c.loop.invariant.reads)

pub loop-preserved : goal.loop-preserved
loop-preserved c = record {
  reads = rw c.in_ok-push.ensures.items (many-next entry_at c.args.count c.loop.counter c.loop.entries.items c.as_slice.result.now c.args.file c.loop.left.now c.in_ok-entry.entry c.in_ok-entry.after.now _ c.loop-test.true c.as_slice.ensures.value c.in_ok-entry.ensures.entry c.loop.invariant.reads);
  names = rw c.in_ok-push.ensures.items (rw c.as_slice.ensures.value at c.in_ok-entry.ensures.names);
}

pub returns : goal.returns
returns c = many-done entry_at c.args.count c.loop.counter c.loop.entries.items c.args.file c.loop.left.now _ c.loop-test.false c.loop.invariant.reads
