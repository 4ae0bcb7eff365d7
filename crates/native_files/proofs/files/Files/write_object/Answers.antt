use Rattle.std.proofs.Common.{None, sym, subst}
use Rattle.std.proofs.Math.Facts.{to_z-of_z}
use Rattle.std.specs.Int.{w128}
use Rattle.kernel_model.specs.Transfers.{write_node, write_object}
use Rattle.native_files.specs.Answers.{WritesSo, moved}
use Rattle.native_files.specs.inside.Contents.{AnswersCount, number_in}
use Rattle.native_files.proofs.WriteSteps.{node-writes}
use Rattle.native_files.proofs.files.Files.write_object.Goals as goal

pub returns-in-Stream-clause-row : goal.returns-in-Stream-clause-row
returns-in-Stream-clause-row g c =
    subst (λ object. WritesSo (write_object c.args.self.now None c.args.now c.args.open.now.fd c.args.open.now.description c.args.bytes.now object) (moved c.write_stream.result) c.write_stream.new.self
    (g.O.Sink.written c.args.out.now) (g.O.Sink.written c.write_stream.new.out) (g.E.Sink.written c.args.err.now) (g.E.Sink.written c.write_stream.new.err))
    (sym c.in-Stream.is) (c.write_stream.ensures.row c.args.now c.args.open.now.fd c.args.open.now.description)

pub returns-in-Node-clause-row : goal.returns-in-Node-clause-row
returns-in-Node-clause-row g c =
    let files = c.args.self.now in
    let row = subst (λ time. AnswersCount (write_node files None time c.args.open.now.fd c.args.open.now.description (number_in c.args.open.now.description.object) c.args.bytes.now) c.write_node.result c.write_node.new.self)
    (to_z-of_z {w = w128} {z = c.args.now} c.ranges.now) c.write_node.ensures.row in
    subst (λ object. WritesSo (write_object files None c.args.now c.args.open.now.fd c.args.open.now.description c.args.bytes.now object) (moved c.write_node.result) c.write_node.new.self
    (g.O.Sink.written c.args.out.now) (g.O.Sink.written c.args.out.now) (g.E.Sink.written c.args.err.now) (g.E.Sink.written c.args.err.now))
    (sym c.in-Node.is)
    (node-writes (write_node files None c.args.now c.args.open.now.fd c.args.open.now.description c.in-Node.field-0 c.args.bytes.now) c.write_node.result c.write_node.new.self (g.O.Sink.written c.args.out.now) (g.E.Sink.written c.args.err.now)
    (subst (λ object. AnswersCount (write_node files None c.args.now c.args.open.now.fd c.args.open.now.description (number_in object) c.args.bytes.now) c.write_node.result c.write_node.new.self) c.in-Node.is row))
