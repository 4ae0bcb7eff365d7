use Rattle.std.proofs.Common.{◌++◌}
use Rattle.byteorder.specs.Endian.{big_bytes}
use Rattle.journal.specs.Text.{body_text, record_text}
use Rattle.std.proofs.lemmas.Result.{err_from_is_err_and}
use Rattle.journal.proofs.Gains.{prefix_first, adds_then}
use Rattle.journal.proofs.writing.put_record.Goals as goal

pub returns-in_err-put_front : goal.returns-in_err-put_front
unfolding record_text
returns-in_err-put_front c =
    let p = err_from_is_err_and c.from_residual.result c.from_residual.ensures.1 in
    rw p.1 (prefix_first (big_bytes 8 c.args.entry.now.turn ++ big_bytes 1 c.args.entry.now.kind) (body_text c.args.entry.now.finish c.args.entry.now.words c.args.entry.now.effects) c.args.out.now.items c.put_front.new.out.items c.in_err-put_front.ensures)

pub returns : goal.returns
unfolding record_text
returns c = adds_then (big_bytes 8 c.args.entry.now.turn ++ big_bytes 1 c.args.entry.now.kind) (body_text c.args.entry.now.finish c.args.entry.now.words c.args.entry.now.effects) c.put_body.result c.args.out.now.items c.put_front.new.out.items c.put_body.new.out.items c.in_ok-put_front.ensures c.put_body.ensures
