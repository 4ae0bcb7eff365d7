-- An end of rt_sigtimedwait(2), or of a suspension.
use Rattle.std.proofs.Common.{◌∙◌, sym}
use Rattle.bridge_ends.proofs.SameEnds.{by_acceptance, by_suspension, closes_as}
use Rattle.o32_model.specs.SignalWaitEnds.{acceptance_ended, signal_wait_ended, suspension_ended}
use Rattle.outside.specs.Streams.{contents}
use Rattle.bridge_ends.proofs.ends.signal_wait_close.Goals as goal

pub returns-then-is_acceptance_call-clause-ends : goal.returns-then-is_acceptance_call-clause-ends
returns-then-is_acceptance_call-clause-ends g c =
    closes_as (acceptance_ended c.args.wait.now c.args.cause c.args.below.now.kernel.now c.args.space.now) (signal_wait_ended c.args.wait.now c.args.cause c.args.below.now.kernel.now c.args.space.now)
    c.acceptance_end.result c.acceptance_end.new.below.kernel.now c.acceptance_end.new.space (contents g.I.Source.left g.O.Sink.written g.E.Sink.written c.args.dev.now) (contents g.I.Source.left g.O.Sink.written g.E.Sink.written c.acceptance_end.new.dev)
    (by_acceptance c.args.wait.now c.args.cause c.args.below.now.kernel.now c.args.space.now (sym c.is_acceptance_call.ensures ∙ c.if-is_acceptance_call.true)) c.acceptance_end.ensures.ends

pub returns-clause-ends : goal.returns-clause-ends
returns-clause-ends g c =
    closes_as (suspension_ended c.args.wait.now c.args.cause c.args.below.now.kernel.now c.args.space.now) (signal_wait_ended c.args.wait.now c.args.cause c.args.below.now.kernel.now c.args.space.now)
    c.suspension_close.result c.suspension_close.new.below.kernel.now c.args.space.now (contents g.I.Source.left g.O.Sink.written g.E.Sink.written c.args.dev.now) (contents g.I.Source.left g.O.Sink.written g.E.Sink.written c.suspension_close.new.dev)
    (by_suspension c.args.wait.now c.args.cause c.args.below.now.kernel.now c.args.space.now (sym c.is_acceptance_call.ensures ∙ c.if-is_acceptance_call.false)) (c.suspension_close.ensures.ends c.args.space.now)
