-- What was said of the native call.
use Rattle.native_calls.specs.Table.{native_call}
use Rattle.outside.specs.Streams.{contents}
use Rattle.bridge_log.proofs.Looking.{looked}
use Rattle.bridge_log.proofs.below.Below.look.Goals as goal

pub returns-clause-looks : goal.returns-clause-looks
returns-clause-looks g c = λ reply memory look left told.
    looked c.args.self.now.kernel.now reply memory left (native_call c.args.nr c.args.args c.args.self.now.kernel.now c.args.self.now.memory.now left) c.native.result c.native.new.self.kernel.now c.native.new.self.memory.now
    (contents g.I.Source.left g.O.Sink.written g.E.Sink.written c.args.dev.now) (contents g.I.Source.left g.O.Sink.written g.E.Sink.written c.native.new.dev) c.args.self.now.log.now c.native.new.self.log.now
    told (look left) (c.native.ensures.row left told) (λ sent. c.native.ensures.kept left told sent) c.native.ensures.effects
