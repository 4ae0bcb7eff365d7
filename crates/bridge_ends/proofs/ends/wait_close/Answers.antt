-- The end of a wait that is no transfer's.
use Rattle.std.proofs.Common.{◌∙◌, sym}
use Rattle.bridge_ends.proofs.SameEnds.{by_signals, by_time, closes_as}
use Rattle.o32_model.specs.SignalWaitEnds.{signal_wait_ended}
use Rattle.o32_model.specs.WaitEnds.{wait_ended}
use Rattle.o32_turns.specs.Closing.{whole_end}
use Rattle.outside.specs.Streams.{contents}
use Rattle.bridge_ends.proofs.ends.wait_close.Goals as goal

pub returns-then-is_signal_wait-clause-ends : goal.returns-then-is_signal_wait-clause-ends
returns-then-is_signal_wait-clause-ends g c =
    closes_as (signal_wait_ended c.args.wait.now c.args.ending.cause c.args.below.now.kernel.now c.args.space.now) (whole_end c.args.ending.restarts c.args.wait.now c.args.ending.cause c.args.below.now.kernel.now c.args.space.now)
    c.signal_wait_close.result c.signal_wait_close.new.below.kernel.now c.signal_wait_close.new.space (contents g.I.Source.left g.O.Sink.written g.E.Sink.written c.args.dev.now) (contents g.I.Source.left g.O.Sink.written g.E.Sink.written c.signal_wait_close.new.dev)
    (by_signals c.args.ending.restarts c.args.wait.now c.args.ending.cause c.args.below.now.kernel.now c.args.space.now (sym c.is_transfer.ensures ∙ c.if-is_transfer.false) (sym c.is_signal_wait.ensures ∙ c.if-is_signal_wait.true))
    c.signal_wait_close.ensures.ends

pub returns-clause-ends : goal.returns-clause-ends
returns-clause-ends g c =
    closes_as (wait_ended c.args.wait.now c.args.ending.cause c.args.ending.clock c.args.below.now.kernel.now c.args.space.now) (whole_end c.args.ending.restarts c.args.wait.now c.args.ending.cause c.args.below.now.kernel.now c.args.space.now)
    c.timed_wait_close.result c.timed_wait_close.new.below.kernel.now c.timed_wait_close.new.space (contents g.I.Source.left g.O.Sink.written g.E.Sink.written c.args.dev.now) (contents g.I.Source.left g.O.Sink.written g.E.Sink.written c.timed_wait_close.new.dev)
    (by_time c.args.ending.restarts c.args.wait.now c.args.ending.cause c.args.below.now.kernel.now c.args.space.now c.args.ending.clock c.requires (sym c.is_transfer.ensures ∙ c.if-is_transfer.false) (sym c.is_signal_wait.ensures ∙ c.if-is_signal_wait.false))
    c.timed_wait_close.ensures.ends
