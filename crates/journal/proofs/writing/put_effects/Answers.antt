use Rattle.std.proofs.lemmas.Result.{err_from_is_err_and}
use Rattle.journal.specs.Text.{effect_text}
use Rattle.journal.proofs.Gains.{adds_next, adds_fails}
use Rattle.journal.proofs.writing.put_effects.Goals as goal

pub returns-in_err-put_effect : goal.returns-in_err-put_effect
returns-in_err-put_effect c =
    let p = err_from_is_err_and c.from_residual.result c.from_residual.ensures.1 in
    rw p.1 (adds_fails effect_text c.args.effects.now c.loop-effect.effect-index c.effect-item.result c.args.out.now.items c.loop-effect.out.items c.put_effect.new.out.items c.loop-effect-test.true c.effect-item.is c.loop-effect.invariant c.in_err-put_effect.ensures)

pub loop-effect-preserved : goal.loop-effect-preserved
loop-effect-preserved c = adds_next effect_text c.args.effects.now c.loop-effect.effect-index c.effect-item.result c.args.out.now.items c.loop-effect.out.items c.put_effect.new.out.items c.loop-effect-test.true c.effect-item.is c.loop-effect.invariant c.in_ok-put_effect.ensures
