use Rattle.std.proofs.Common.{List, subst}
use Rattle.std.specs.Prelude.{All}
use Rattle.std.proofs.lemmas.List.{take_all}
use Rattle.std.proofs.lemmas.List.Elements.{All-more}
use Rattle.kernel_core.specs.declared.record.Effect.{Effect}
use Rattle.journal.specs.Form.{IsEffect}
use Rattle.o32_runner.proofs.forms.are_effects.Goals as goal

pub loop-effect-preserved : goal.loop-effect-preserved
loop-effect-preserved c =
    All-more IsEffect c.args.effects.now c.loop-effect.effect-index c.effect-item.result c.loop-effect-test.true c.loop-effect.invariant
    (subst (λ (effect : Effect). IsEffect effect) c.effect-item.is (c.is_effect.ensures c.if-not-is_effect.false))

pub returns : goal.returns
returns c = λ done.
    subst (λ (list : List Effect). All IsEffect list) (take_all c.loop-effect.effect-index c.args.effects.now c.loop-effect-test.false) c.loop-effect.invariant
