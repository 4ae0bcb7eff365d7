use Rattle.std.proofs.lemmas.Result.{err_from_is_err_and}
use Rattle.journal.specs.Reading.{effect_at}
use Rattle.journal.specs.Seen.{effect_seen}
use Rattle.journal.proofs.Loops.{behind-next, behind-fails, behind-done}
use Rattle.journal.proofs.effects.behind_effects.Goals as goal

pub returns-in_err-after : goal.returns-in_err-after
returns-in_err-after c =
    let p = err_from_is_err_and c.from_residual.result c.from_residual.ensures.1 in
    rw (p.1, p.2) (behind-fails effect_at c.in_err-after.field-0.0.at c.args.count c.loop.counter c.args.file c.loop.left.now _ c.loop-test.true c.in_err-after.ensures c.loop.invariant)

pub loop-preserved : goal.loop-preserved
loop-preserved c =
    behind-next effect_at c.args.count c.loop.counter c.args.file c.loop.left.now (effect_seen c.in_ok-after.field-0-0) c.in_ok-after.after.now _ c.loop-test.true c.in_ok-after.ensures c.loop.invariant

pub returns : goal.returns
returns c = behind-done effect_at c.args.count c.loop.counter c.args.file c.loop.left.now _ c.loop-test.false c.loop.invariant
