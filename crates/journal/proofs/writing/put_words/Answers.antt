use Rattle.std.proofs.Common.{get_or}
use Rattle.std.proofs.lemmas.Result.{err_from_is_err_and}
use Rattle.std.proofs.lemmas.List.{get_or_default}
use Rattle.byteorder.specs.Endian.{big_bytes}
use Rattle.journal.proofs.Gains.{adds_fails}
use Rattle.journal.proofs.writing.put_words.Goals as goal

pub returns-in_err-put_number : goal.returns-in_err-put_number
returns-in_err-put_number c =
    let p = err_from_is_err_and c.from_residual.result c.from_residual.ensures.1 in
    let i = c.loop-word.word-index in
    let word = get_or c.args.words.now i 0 in
    rw p.1 (adds_fails (big_bytes 4) c.args.words.now i word c.args.out.now.items c.loop-word.out.items c.put_number.new.out.items c.loop-word-test.true (get_or_default c.args.words.now i 0 word c.loop-word-test.true) c.loop-word.invariant c.in_err-put_number.ensures)
