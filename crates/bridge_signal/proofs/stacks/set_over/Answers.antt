use Rattle.std.proofs.Common.{◌≡◌, ◌∙◌, Option, sym, ap}
use Rattle.kernel_model.specs.Came.{done}
use Rattle.kernel_model.specs.declared.signal.SigStack.{SigStack}
use Rattle.std.specs.Prelude.{Some}
use Rattle.outside.specs.Streams.{contents}
use Rattle.bridge_signal_state.proofs.Moving.{acted_as, moves_none}
use Rattle.bridge_signal.specs.inside.Stacks.{set_from}
use Rattle.bridge_signal.specs.inside.Told.{did}
use Rattle.bridge_signal.proofs.stacks.set_over.Goals as goal

pub returns-in-None-clause-acts : goal.returns-in-None-clause-acts
returns-in-None-clause-acts g c = λ left told. (
  ap (λ (o : Option SigStack). set_from c.args.below.now.kernel.now c.args.before c.args.sp o) c.in-None.is ∙ ap (λ (s : SigStack). done c.args.below.now.kernel.now s) (sym c.shown_stack.ensures),
  moves_none c.args.below.now.kernel.now (contents g.I.Source.left g.O.Sink.written g.E.Sink.written c.args.dev.now) left c.args.below.now.log.now,
)

pub returns-in-Some-clause-acts : goal.returns-in-Some-clause-acts
returns-in-Some-clause-acts g c = λ left told.
    acted_as (λ found became. set_from c.args.below.now.kernel.now c.args.before c.args.sp (Some c.in-Some.new) ≡ did became found) (λ found became. set_from c.args.below.now.kernel.now c.args.before c.args.sp c.args.new ≡ did became found) c.set_unless_on.result c.args.below.now.kernel.now c.set_unless_on.new.below.kernel.now
    (contents g.I.Source.left g.O.Sink.written g.E.Sink.written c.args.dev.now) (contents g.I.Source.left g.O.Sink.written g.E.Sink.written c.set_unless_on.new.dev) left c.args.below.now.log.now c.set_unless_on.new.below.log.now
    (λ found is. ap (λ (o : Option SigStack). set_from c.args.below.now.kernel.now c.args.before c.args.sp o) c.in-Some.is ∙ is)
    (c.set_unless_on.ensures.acts left told)
