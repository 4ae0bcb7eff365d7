-- As it was found.
use Rattle.std.proofs.Common.{sym}
use Rattle.outside.specs.Streams.{contents}
use Rattle.bridge_io.proofs.Plans.{size_past_plan, size_room_plan}
use Rattle.bridge_log.proofs.Looking.{unmoved_none}
use Rattle.bridge_io.proofs.placing.plan_behind.Goals as goal

pub returns-then-size-lt-SMALL_FILE_LIMIT-clause-looks : goal.returns-then-size-lt-SMALL_FILE_LIMIT-clause-looks
returns-then-size-lt-SMALL_FILE_LIMIT-clause-looks g c = λ found small append is left told. (
  size_room_plan c.args.below.now.kernel.now.files c.args.fd c.args.place c.args.size c.args.flags c.requires found small append is c.if-size-lt-SMALL_FILE_LIMIT.true,
  unmoved_none c.args.below.now.kernel.now (contents g.I.Source.left g.O.Sink.written g.E.Sink.written c.args.dev.now) left c.args.below.now.log.now,
)

pub returns-clause-looks : goal.returns-clause-looks
returns-clause-looks g c = λ found small append is left told.
    let seen = c.in_ok-file.ensures.looks left told in
    (size_past_plan c.args.below.now.kernel.now.files c.args.fd c.args.place c.args.size c.in_ok-file.file c.args.flags c.requires found small append is c.if-size-lt-SMALL_FILE_LIMIT.false (sym seen.0), seen.1)
