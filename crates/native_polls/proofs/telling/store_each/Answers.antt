use Rattle.std.proofs.Common.{arith}
use Rattle.native_polls.specs.inside.Entries.{told_from}
use Rattle.native_polls.proofs.EntryLaws.{inside_more, stored_more}
use Rattle.native_polls.proofs.telling.store_each.Goals as goal

pub loop-done-preserved : goal.loop-done-preserved
loop-done-preserved g c = record {
  at = omega arith;
  there =
      inside_more (g.F.Readiness.files c.args.files.now) c.loop-done.mem c.store_first.new.mem (told_from (g.F.Readiness.files c.args.files.now) c.args.mem.now c.args.address c.args.count)
      c.loop-done.place c.args.count c.loop-done.done c.loop-done-test.true c.loop-done.invariant.there c.store_first.ensures;
  all =
      stored_more (g.F.Readiness.files c.args.files.now) c.loop-done.mem c.store_first.new.mem (told_from (g.F.Readiness.files c.args.files.now) c.args.mem.now c.args.address c.args.count)
      c.loop-done.place c.args.count c.loop-done.done c.loop-done-test.true c.loop-done.invariant.there c.store_first.ensures c.loop-done.invariant.all;
}
