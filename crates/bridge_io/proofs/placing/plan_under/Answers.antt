-- As it was found.
use Rattle.std.proofs.Common.{◌^◌, lit<, lit≤}
use Rattle.outside.specs.Streams.{contents}
use Rattle.bridge_io.proofs.Plans.{far_plan, large_plan, place_plan}
use Rattle.bridge_log.proofs.Looking.{unmoved_none}
use Rattle.bridge_io.proofs.placing.plan_under.Goals as goal

pub returns-then-flags-clause-looks : goal.returns-then-flags-clause-looks
returns-then-flags-clause-looks g c = λ found left told. (
  large_plan c.args.below.now.kernel.now.files c.args.fd c.args.place 18446744073709551615 c.args.flags c.requires (lit≤ tt) found c.if-flags.true,
  unmoved_none c.args.below.now.kernel.now (contents g.I.Source.left g.O.Sink.written g.E.Sink.written c.args.dev.now) left c.args.below.now.log.now,
)

pub returns-then-place-lt-SMALL_FILE_LIMIT-clause-looks : goal.returns-then-place-lt-SMALL_FILE_LIMIT-clause-looks
returns-then-place-lt-SMALL_FILE_LIMIT-clause-looks g c = λ found left told. (
  place_plan c.args.below.now.kernel.now.files c.args.fd c.args.place c.args.flags found c.if-flags.false c.if-flags-2.false c.if-place-lt-SMALL_FILE_LIMIT.true,
  unmoved_none c.args.below.now.kernel.now (contents g.I.Source.left g.O.Sink.written g.E.Sink.written c.args.dev.now) left c.args.below.now.log.now,
)

pub returns-clause-looks : goal.returns-clause-looks
returns-clause-looks g c = λ found left told. (
  far_plan c.args.below.now.kernel.now.files c.args.fd c.args.place 18446744073709551615 (2 ^ 62) c.args.flags c.requires (lit< tt) (lit< tt) (lit< tt) found c.if-flags.false c.if-flags-2.false c.if-place-lt-SMALL_FILE_LIMIT.false,
  unmoved_none c.args.below.now.kernel.now (contents g.I.Source.left g.O.Sink.written g.E.Sink.written c.args.dev.now) left c.args.below.now.log.now,
)
