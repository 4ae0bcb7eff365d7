use Rattle.std.proofs.Common.{◌≡◌, [], ◌∷◌, ◌++◌, map, string_bytes, ap, ◌∙◌}
use Rattle.std.proofs.lemmas.Result.{err_from_is_err_and}
use Rattle.std.proofs.lemmas.List.{map_push}
use Rattle.journal.specs.Reading.{text_at}
use Rattle.journal.proofs.Loops.{many-next, many-fails, many-done}
use Rattle.journal.proofs.parsing.texts_at.Goals as goal

pub returns-in_err-text : goal.returns-in_err-text
returns-in_err-text c =
    let p = err_from_is_err_and c.from_residual.result c.from_residual.ensures.1 in
    rw (p.1, p.2) (many-fails text_at c.in_err-text.field-0.0 c.args.count c.loop.counter (map string_bytes c.loop.texts.items) c.args.file c.loop.left.now _ c.loop-test.true c.in_err-text.ensures c.loop.invariant)

pub loop-preserved : goal.loop-preserved
loop-preserved c =
    let pushed = ap (map string_bytes) c.in_ok-push.ensures.items ∙ map_push string_bytes c.loop.texts.items c.in_ok-text.text in
    rw pushed (many-next text_at c.args.count c.loop.counter (map string_bytes c.loop.texts.items) c.args.file c.loop.left.now (string_bytes c.in_ok-text.text) c.in_ok-text.after.now _ c.loop-test.true c.in_ok-text.ensures c.loop.invariant)

pub returns : goal.returns
returns c = many-done text_at c.args.count c.loop.counter (map string_bytes c.loop.texts.items) c.args.file c.loop.left.now _ c.loop-test.false c.loop.invariant
