-- The time is looked at first.
use Rattle.std.proofs.Common.{◌≡◌, ◌∙◌, Some, true, false, rules}
use Rattle.kernel_model.specs.SignalRows.{accept_signal}
use Rattle.kernel_model.specs.State.{Kernel}
use Rattle.outside.specs.Streams.{contents}
use Rattle.bridge_acceptance.proofs.Rows.{timed, untimed}
use Rattle.bridge_acceptance.specs.declared.accepting.Accepted.{Accepted}
use Rattle.bridge_acceptance.specs.inside.Accepting.{did, is_timed, met}
use Rattle.bridge_signal_state.proofs.Moving.{acted_as, moves_none}
use Rattle.bridge_acceptance.proofs.accepting.accept_signal.Goals as goal

pub returns-then-not-is_timed-clause-acts : goal.returns-then-not-is_timed-clause-acts
returns-then-not-is_timed-clause-acts g c = λ there left told.
    let wrong : is_timed c.args.time ≡ false = search rules in
    (untimed c.args.below.now.kernel.now c.args.time (Some c.args.sig) wrong, moves_none c.args.below.now.kernel.now (contents g.I.Source.left g.O.Sink.written g.E.Sink.written c.args.dev.now) left c.args.below.now.log.now)

pub returns-clause-acts : goal.returns-clause-acts
returns-clause-acts g c = λ there left told.
    let fine : is_timed c.args.time ≡ true = search rules in
    let taken = timed c.args.below.now.kernel.now c.args.time (Some c.args.sig) fine in
    let before = contents g.I.Source.left g.O.Sink.written g.E.Sink.written c.args.dev.now in
    let after = contents g.I.Source.left g.O.Sink.written g.E.Sink.written c.take_signal.new.dev in
    acted_as (λ (came : Accepted) (became : Kernel). accept_signal c.args.below.now.kernel.now (Some c.args.sig) taken.0 ≡ did became came) (λ (came : Accepted) (became : Kernel). met c.args.below.now.kernel.now c.args.time (Some c.args.sig) ≡ did became came)
    c.take_signal.result c.args.below.now.kernel.now c.take_signal.new.below.kernel.now before after left c.args.below.now.log.now c.take_signal.new.below.log.now (λ came does. taken.1 ∙ does)
    (c.take_signal.ensures.acts taken.0 there left told)
