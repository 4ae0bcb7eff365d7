-- As it was found.
use Rattle.std.proofs.Common.{sym, ap, ◌∙◌, lit<}
use Rattle.std.specs.Int.{w64, cast_signed}
use Rattle.kernel_model.specs.Descriptions.{opened}
use Rattle.kernel_model.specs.State.{Kernel}
use Rattle.o32_model.specs.Transfers.{small_file_limit}
use Rattle.outside.specs.Streams.{contents}
use Rattle.bridge_io.proofs.Plans.{closed_plan, negative_plan}
use Rattle.bridge_log.proofs.Looking.{looked_then, still_told, unmoved_none}
use Rattle.bridge_io.specs.inside.Plans.{IsPlan}
use Rattle.bridge_io.specs.inside.Rooms.{flags_there}
use Rattle.bridge_io.proofs.placing.plan.Goals as goal

pub returns-then-place-ge-FIRST_NEGATIVE-clause-looks : goal.returns-then-place-ge-FIRST_NEGATIVE-clause-looks
returns-then-place-ge-FIRST_NEGATIVE-clause-looks g c = λ left told. (
  negative_plan c.args.below.now.kernel.now.files c.args.fd c.args.place 18446744073709551615 c.if-place-ge-FIRST_NEGATIVE.true c.ranges.place.fits,
  unmoved_none c.args.below.now.kernel.now (contents g.I.Source.left g.O.Sink.written g.E.Sink.written c.args.dev.now) left c.args.below.now.log.now,
)

pub returns-in-None-clause-looks : goal.returns-in-None-clause-looks
returns-in-None-clause-looks g c = λ left told.
    let seen = c.in_ok-write_flags.ensures.looks left told in
    (closed_plan c.args.below.now.kernel.now.files c.args.fd c.args.place 18446744073709551615 c.if-place-ge-FIRST_NEGATIVE.false (lit< tt) (sym seen.0 ∙ c.in-None.is), seen.1)

pub returns-in-Some-clause-looks : goal.returns-in-Some-clause-looks
returns-in-Some-clause-looks g c = λ left told.
    let seen = c.in_ok-write_flags.ensures.looks left told in
    looked_then (λ (k : Kernel). IsPlan k.files small_file_limit c.args.fd (cast_signed w64 c.args.place)) c.plan_under.result c.args.below.now.kernel.now c.write_flags.new.below.kernel.now c.plan_under.new.below.kernel.now
    (contents g.I.Source.left g.O.Sink.written g.E.Sink.written c.args.dev.now) (contents g.I.Source.left g.O.Sink.written g.E.Sink.written c.write_flags.new.dev) (contents g.I.Source.left g.O.Sink.written g.E.Sink.written c.plan_under.new.dev)
    left c.args.below.now.log.now c.write_flags.new.below.log.now c.plan_under.new.below.log.now seen.1
    (c.plan_under.ensures.looks (ap (λ (k : Kernel). flags_there (opened k.files c.args.fd)) seen.1.same ∙ sym seen.0 ∙ c.in-Some.is) left (still_told seen.1 told))
