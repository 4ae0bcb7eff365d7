-- The mask and the end are those of the cause.
use Rattle.std.proofs.Common.{◌≡◌, ◌∙◌, sym}
use Rattle.bridge_ends.proofs.SameEnds.{closes_as, suspended}
use Rattle.bridge_ends.specs.inside.Endings.{old_mask, suspension_end}
use Rattle.o32_model.specs.SignalWaitEnds.{suspension_ended}
use Rattle.o32_model.specs.WaitEnds.{ends_with, with_old_mask}
use Rattle.outside.specs.Streams.{contents}
use Rattle.bridge_ends.proofs.ends.suspension_close.Goals as goal

pub returns-clause-ends : goal.returns-clause-ends
returns-clause-ends g c = λ memory.
    let wait = c.args.wait.now in
    let same : ends_with c.suspension_end.result (with_old_mask c.old_mask.result c.args.below.now.kernel.now) memory
    ≡ ends_with (suspension_end c.args.cause) (with_old_mask (old_mask wait c.args.cause) c.args.below.now.kernel.now) memory =
    λ i. ends_with (c.suspension_end.ensures i) (with_old_mask (c.old_mask.ensures i) c.args.below.now.kernel.now) memory in
    closes_as (ends_with c.suspension_end.result (with_old_mask c.old_mask.result c.args.below.now.kernel.now) memory) (suspension_ended wait c.args.cause c.args.below.now.kernel.now memory)
    c.with_old_mask.result c.with_old_mask.new.below.kernel.now memory (contents g.I.Source.left g.O.Sink.written g.E.Sink.written c.args.dev.now) (contents g.I.Source.left g.O.Sink.written g.E.Sink.written c.with_old_mask.new.dev)
    (suspended wait c.args.cause c.args.below.now.kernel.now memory ∙ sym same) (c.with_old_mask.ensures.ends memory)
