-- The flags are those of the kernel as it was.
use Rattle.std.proofs.Common.{sym, ap, ◌∙◌}
use Rattle.kernel_model.specs.Descriptions.{opened}
use Rattle.kernel_model.specs.State.{Kernel}
use Rattle.o32_model.specs.Transfers.{small_file_limit}
use Rattle.outside.specs.Streams.{contents}
use Rattle.bridge_log.proofs.Looking.{looked_then, still_told}
use Rattle.bridge_io.specs.inside.Rooms.{IsRoom, flags_there}
use Rattle.bridge_io.proofs.looking.room.Goals as goal

pub returns-in-Some-clause-looks : goal.returns-in-Some-clause-looks
returns-in-Some-clause-looks g c = λ left told.
    let seen = c.in_ok-write_flags.ensures.looks left told in
    looked_then (λ (k : Kernel). IsRoom k.files small_file_limit (λ d. d.position) (opened k.files c.args.fd)) c.room_under.result c.args.below.now.kernel.now c.write_flags.new.below.kernel.now c.room_under.new.below.kernel.now
    (contents g.I.Source.left g.O.Sink.written g.E.Sink.written c.args.dev.now) (contents g.I.Source.left g.O.Sink.written g.E.Sink.written c.write_flags.new.dev) (contents g.I.Source.left g.O.Sink.written g.E.Sink.written c.room_under.new.dev)
    left c.args.below.now.log.now c.write_flags.new.below.log.now c.room_under.new.below.log.now seen.1
    (c.room_under.ensures.looks (ap (λ (k : Kernel). flags_there (opened k.files c.args.fd)) seen.1.same ∙ sym seen.0 ∙ c.in-Some.is) left (still_told seen.1 told))
