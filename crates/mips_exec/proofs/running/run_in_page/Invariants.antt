use Rattle.std.proofs.Common.{◌-◌, ◌≤◌}
use Rattle.mips_exec.specs.Going.{Goes}
use Rattle.mips_exec.proofs.running.run_in_page.Given as goal

abbrev pub invariant-loop-left : goal.invariant-loop-left
invariant-loop-left l = record {
  went : Goes (l.most - l.left) l.fn.cpu l.space l.cpu l.space;
  few : l.left ≤ l.most;
}

abbrev pub decreases-loop-left : goal.decreases-loop-left
decreases-loop-left l = l.left
