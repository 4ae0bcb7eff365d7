use Rattle.std.proofs.Common.{◌≡◌, ◌∙◌, Option, sym, ap}
use Rattle.kernel_model.specs.declared.signal.Action.{Action}
use Rattle.outside.specs.Streams.{contents}
use Rattle.bridge_signal_state.proofs.Moving.{acted_as, moves_none}
use Rattle.bridge_signal.specs.inside.Asked.{action_set, action_set_to}
use Rattle.bridge_signal.proofs.actions.set_new.Goals as goal

pub returns-in-None-clause-acts : goal.returns-in-None-clause-acts
returns-in-None-clause-acts g c = λ left told.
    (sym (ap (λ (o : Option Action). action_set c.args.below.now.kernel.now c.args.sig o) c.in-None.is), moves_none c.args.below.now.kernel.now (contents g.I.Source.left g.O.Sink.written g.E.Sink.written c.args.dev.now) left c.args.below.now.log.now)

pub returns-in-Some-clause-acts : goal.returns-in-Some-clause-acts
returns-in-Some-clause-acts g c = λ left told.
    acted_as (λ _ became. became ≡ action_set_to c.args.below.now.kernel.now c.args.sig c.in-Some.action) (λ _ became. became ≡ action_set c.args.below.now.kernel.now c.args.sig c.args.new) c.set_action.result c.args.below.now.kernel.now c.set_action.new.below.kernel.now
    (contents g.I.Source.left g.O.Sink.written g.E.Sink.written c.args.dev.now) (contents g.I.Source.left g.O.Sink.written g.E.Sink.written c.set_action.new.dev) left c.args.below.now.log.now c.set_action.new.below.log.now
    (λ _ is. is ∙ sym (ap (λ (o : Option Action). action_set c.args.below.now.kernel.now c.args.sig o) c.in-Some.is))
    (c.set_action.ensures.acts left told)
