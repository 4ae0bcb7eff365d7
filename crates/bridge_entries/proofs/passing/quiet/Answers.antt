-- What was said of the native call.
use Rattle.native_calls.specs.Table.{native_call}
use Rattle.outside.specs.Streams.{contents}
use Rattle.bridge_entries.proofs.Quietly.{went}
use Rattle.bridge_entries.proofs.passing.quiet.Goals as goal

pub returns-clause-goes : goal.returns-clause-goes
returns-clause-goes g c = λ target reply memory is left told.
    went c.args.below.now.kernel.now target reply memory left (native_call c.args.nr c.args.args c.args.below.now.kernel.now c.args.below.now.memory.now left) c.native.result c.native.new.self.kernel.now c.native.new.self.memory.now
    (contents g.I.Source.left g.O.Sink.written g.E.Sink.written c.args.dev.now) (contents g.I.Source.left g.O.Sink.written g.E.Sink.written c.native.new.dev) c.args.below.now.log.now c.native.new.self.log.now
    told (is left) (c.native.ensures.row left told) (λ sent. c.native.ensures.kept left told sent) c.native.ensures.effects
