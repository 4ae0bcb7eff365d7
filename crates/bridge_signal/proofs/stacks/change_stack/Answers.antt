use Rattle.std.proofs.Common.{◌≡◌, ◌∙◌, ap}
use Rattle.kernel_model.specs.SignalRows.{set_stack_to}
use Rattle.std.specs.Prelude.{Some}
use Rattle.outside.specs.Streams.{contents}
use Rattle.bridge_signal_state.proofs.Moving.{acted_as, moves_none}
use Rattle.bridge_signal.specs.inside.Stacks.{changed_stack}
use Rattle.bridge_signal.specs.inside.Told.{did}
use Rattle.bridge_signal.proofs.stacks.change_stack.Goals as goal

pub returns-in-Err-clause-acts : goal.returns-in-Err-clause-acts
returns-in-Err-clause-acts g c = λ left told.
    (ap (changed_stack c.args.below.now.kernel.now c.args.sp) c.in-Err.is, moves_none c.args.below.now.kernel.now (contents g.I.Source.left g.O.Sink.written g.E.Sink.written c.args.dev.now) left c.args.below.now.log.now)

pub returns-in-Ok-clause-acts : goal.returns-in-Ok-clause-acts
returns-in-Ok-clause-acts g c = λ left told.
    acted_as (λ found became. set_stack_to c.args.below.now.kernel.now (Some c.args.sp) c.in-Ok.new ≡ did became found) (λ found became. changed_stack c.args.below.now.kernel.now c.args.sp c.args.asked ≡ did became found) c.replace_stack.result c.args.below.now.kernel.now c.replace_stack.new.below.kernel.now
    (contents g.I.Source.left g.O.Sink.written g.E.Sink.written c.args.dev.now) (contents g.I.Source.left g.O.Sink.written g.E.Sink.written c.replace_stack.new.dev) left c.args.below.now.log.now c.replace_stack.new.below.log.now
    (λ found is. ap (changed_stack c.args.below.now.kernel.now c.args.sp) c.in-Ok.is ∙ is)
    (c.replace_stack.ensures.acts left told)
