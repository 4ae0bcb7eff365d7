use Rattle.native_calls.specs.HostBytes.{ranges_in}
use Rattle.native_kernel.proofs.VectorLemmas.{more_ranges}
use Rattle.native_kernel.proofs.vectors.ranges_in.Goals as goal

pub loop-done-preserved : goal.loop-done-preserved
loop-done-preserved c =
    more_ranges c.loop-done.ranges.items c.push.new.self.items c.range_in.result c.args.count c.loop-done.done c.args.bytes.now (ranges_in c.args.count c.args.bytes.now)
    c.loop-done-test.true c.range_in.ensures c.in_ok-push.ensures.items c.loop-done.invariant
