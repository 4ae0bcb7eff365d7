use Rattle.std.proofs.lemmas.Result.{err_from_is_err_and}
use Rattle.std.proofs.Common.{string_bytes}
use Rattle.journal.specs.Text.{counted}
use Rattle.journal.proofs.Gains.{adds_next, adds_fails}
use Rattle.journal.proofs.writing.put_texts.Goals as goal

pub returns-in_err-put_text : goal.returns-in_err-put_text
returns-in_err-put_text c =
    let p = err_from_is_err_and c.from_residual.result c.from_residual.ensures.1 in
    rw p.1 (adds_fails (λ text. counted (string_bytes text)) c.args.texts.now c.loop-text.text-index c.text-item.result c.args.out.now.items c.loop-text.out.items c.put_text.new.out.items c.loop-text-test.true c.text-item.is c.loop-text.invariant c.in_err-put_text.ensures)

pub loop-text-preserved : goal.loop-text-preserved
loop-text-preserved c = adds_next (λ text. counted (string_bytes text)) c.args.texts.now c.loop-text.text-index c.text-item.result c.args.out.now.items c.loop-text.out.items c.put_text.new.out.items c.loop-text-test.true c.text-item.is c.loop-text.invariant c.in_ok-put_text.ensures
