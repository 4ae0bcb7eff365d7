use Rattle.native_kernel.proofs.Quietly.{call_is, stopped_first}
use Rattle.native_kernel.proofs.kernel.NativeKernel.call.Goals as goal
use Rattle.native_kernel.specs.Built.{built_call}
use Rattle.outside.specs.Streams.{contents}

pub returns-in-Err-clause-row : goal.returns-in-Err-clause-row
returns-in-Err-clause-row g c = λ left told.
    stopped_first (built_call c.args.nr c.args.args c.args.self.now c.args.mem.now left) (contents g.I.Source.left g.O.Sink.written g.E.Sink.written c.args.dev.now)

pub returns-in-Ok-clause-row : goal.returns-in-Ok-clause-row
returns-in-Ok-clause-row g c =
    call_is (built_call c.args.nr c.args.args c.args.self.now c.args.mem.now) c.in-Ok.reply c.quiet_call.new.self c.quiet_call.new.mem
    (contents g.I.Source.left g.O.Sink.written g.E.Sink.written c.args.dev.now) c.in-Ok.ensures.row
