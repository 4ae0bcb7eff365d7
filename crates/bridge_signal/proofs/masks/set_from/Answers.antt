use Rattle.std.proofs.Common.{◌≡◌, ◌∙◌, Option, sym, ap}
use Rattle.kernel_model.specs.SignalRows.{with_mask}
use Rattle.kernel_model.specs.SignalSets.{SignalSet}
use Rattle.outside.specs.Streams.{contents}
use Rattle.bridge_signal_state.proofs.Moving.{acted_as, moves_none}
use Rattle.bridge_signal.specs.declared.asked.MaskSetting.{MaskSetting}
use Rattle.bridge_signal.specs.inside.Asked.{mask_from}
use Rattle.bridge_signal.proofs.masks.set_from.Goals as goal

pub returns-in-None-clause-acts : goal.returns-in-None-clause-acts
returns-in-None-clause-acts g c = λ left told.
    (sym (ap (λ (o : Option MaskSetting). mask_from c.args.below.now.kernel.now c.args.before o) c.in-None.is), moves_none c.args.below.now.kernel.now (contents g.I.Source.left g.O.Sink.written g.E.Sink.written c.args.dev.now) left c.args.below.now.log.now)

pub returns-in-Some-clause-acts : goal.returns-in-Some-clause-acts
returns-in-Some-clause-acts g c = λ left told.
    acted_as (λ _ became. became ≡ with_mask c.args.below.now.kernel.now c.changed_mask-becomes.result) (λ _ became. became ≡ mask_from c.args.below.now.kernel.now c.args.before c.args.change) c.set_mask.result c.args.below.now.kernel.now c.set_mask.new.below.kernel.now
    (contents g.I.Source.left g.O.Sink.written g.E.Sink.written c.args.dev.now) (contents g.I.Source.left g.O.Sink.written g.E.Sink.written c.set_mask.new.dev) left c.args.below.now.log.now c.set_mask.new.below.log.now
    (λ _ is. is ∙ ap (λ (s : SignalSet). with_mask c.args.below.now.kernel.now s) c.changed_mask-becomes.ensures ∙ sym (ap (λ (o : Option MaskSetting). mask_from c.args.below.now.kernel.now c.args.before o) c.in-Some.is))
    (c.set_mask.ensures.acts left told)
