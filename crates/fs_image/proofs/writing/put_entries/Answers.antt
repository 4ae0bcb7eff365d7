use Rattle.std.proofs.lemmas.Result.{err_from_is_err_and}
use Rattle.fs_image.specs.Text.{entry_text}
use Rattle.fs_image.proofs.Gains.{adds_fails}
use Rattle.fs_image.proofs.writing.put_entries.Goals as goal

pub returns-in_err-put_entry : goal.returns-in_err-put_entry
returns-in_err-put_entry c =
    let p = err_from_is_err_and c.from_residual.result c.from_residual.ensures.1 in
    rw p.1 (adds_fails entry_text c.args.entries.now c.loop-entry.entry-index c.entry-item.result c.args.out.now.items c.loop-entry.out.items c.put_entry.new.out.items c.loop-entry-test.true c.entry-item.is c.loop-entry.invariant c.in_err-put_entry.ensures)
