-- By the frame
use Rattle.std.proofs.Common.{ap}
use Rattle.o32_model.specs.Returns.{rt_sigreturn_row}
use Rattle.o32_model.specs.declared.outcome.Outcome.TheVariants as outcomes
use Rattle.outside.specs.Streams.{contents}
use Rattle.bridge_signal_state.proofs.Moving.{moves_none}
use Rattle.bridge_signal.proofs.Ends.{ends_called, ends_quietly}
use Rattle.bridge_signal.proofs.Frames.{rt_frame_ended, rt_frame_fails}
use Rattle.bridge_signal_state.specs.Passed.{ending}
use Rattle.bridge_signal.proofs.returning.rt_sigreturn.Goals as goal

pub returns-in-Err-clause-row : goal.returns-in-Err-clause-row
returns-in-Err-clause-row g c = λ guest memory processor left told.
    ends_called outcomes.BadFrame c.args.space.now c.read_rt_frame.new.cpu (ending outcomes.BadFrame guest.memory) (rt_sigreturn_row c.args.below.now.kernel.now guest left)
    (moves_none c.args.below.now.kernel.now (contents g.I.Source.left g.O.Sink.written g.E.Sink.written c.args.dev.now) left c.args.below.now.log.now) told (rt_frame_fails c.args.below.now.kernel.now guest left c.args.space.now c.args.cpu.now c.read_rt_frame.new.cpu _ memory processor c.in-Err.ensures.denied c.in-Err.ensures.answer) (ap (ending outcomes.BadFrame) memory)

pub returns-in-Err-clause-kept : goal.returns-in-Err-clause-kept
returns-in-Err-clause-kept g c = λ guest memory processor left told.
    ends_quietly guest outcomes.BadFrame c.read_rt_frame.new.cpu (rt_sigreturn_row c.args.below.now.kernel.now guest left)
    (moves_none c.args.below.now.kernel.now (contents g.I.Source.left g.O.Sink.written g.E.Sink.written c.args.dev.now) left c.args.below.now.log.now) (rt_frame_fails c.args.below.now.kernel.now guest left c.args.space.now c.args.cpu.now c.read_rt_frame.new.cpu _ memory processor c.in-Err.ensures.denied c.in-Err.ensures.answer)

pub returns-in_ok-restore-in-Ok-clause-row : goal.returns-in_ok-restore-in-Ok-clause-row
returns-in_ok-restore-in-Ok-clause-row g c = λ guest memory processor left told.
    let done = c.in_ok-restore-in-Ok.ensures.acts left told in
    ends_called outcomes.Frame c.args.space.now c.read_rt_frame.new.cpu (ending outcomes.Frame guest.memory) (rt_sigreturn_row c.args.below.now.kernel.now guest left) done.1 told
    (rt_frame_ended c.args.below.now.kernel.now c.restore.new.below.kernel.now guest left c.args.space.now c.args.cpu.now c.read_rt_frame.new.cpu c.in-Ok.back c.register-sp.result memory processor c.in-Ok.ensures.answer c.in-Ok.ensures.returned c.register-sp.ensures done.0) (ap (ending outcomes.Frame) memory)

pub returns-in_ok-restore-in-Ok-clause-kept : goal.returns-in_ok-restore-in-Ok-clause-kept
returns-in_ok-restore-in-Ok-clause-kept g c = λ guest memory processor left told.
    let done = c.in_ok-restore-in-Ok.ensures.acts left told in
    ends_quietly guest outcomes.Frame c.read_rt_frame.new.cpu (rt_sigreturn_row c.args.below.now.kernel.now guest left) done.1
    (rt_frame_ended c.args.below.now.kernel.now c.restore.new.below.kernel.now guest left c.args.space.now c.args.cpu.now c.read_rt_frame.new.cpu c.in-Ok.back c.register-sp.result memory processor c.in-Ok.ensures.answer c.in-Ok.ensures.returned c.register-sp.ensures done.0)
