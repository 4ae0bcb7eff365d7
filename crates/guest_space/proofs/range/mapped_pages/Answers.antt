use Rattle.std.proofs.Common.{◌+◌, ◌-◌, arith}
use Rattle.guest_space.proofs.MappingLemmas.{mapped_run-same}
use Rattle.guest_space.proofs.Ranges.{run-together}
use Rattle.guest_space.proofs.range.mapped_pages.Goals as goal

pub loop-done-preserved : goal.loop-done-preserved
loop-done-preserved c =
    let pages = c.args.pages.now in
    let enough = c.begins_mapped.ensures.enough c.loop-done-test.true in
    let row = run-together pages 1024 (c.args.first + c.loop-done.done) (c.args.count - c.loop-done.done) enough (c.begins_mapped.ensures.mapped c.loop-done-test.true) in
    let same = mapped_run-same pages {a = c.args.first + c.loop-done.done + 1024} {b = c.args.first + (c.loop-done.done + 1024)} {m = c.args.count - c.loop-done.done - 1024} {n = c.args.count - (c.loop-done.done + 1024)} (omega arith) (omega arith) in
    record {
      within = omega (arith, enough, c.loop-done.invariant.within);
      counted = omega (arith, c.loop-done.invariant.counted, row, same);
    }
