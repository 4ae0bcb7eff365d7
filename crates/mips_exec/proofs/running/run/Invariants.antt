use Rattle.std.proofs.Common.{◌-◌, ◌≤◌}
use Rattle.mips_exec.specs.Going.{Goes}
use Rattle.mips_exec.proofs.running.run.Given as goal

abbrev pub invariant-loop-cpu : goal.invariant-loop-cpu
invariant-loop-cpu l = record {
  went : Goes (l.most - l.left) l.fn.cpu l.fn.space l.cpu l.space;
  few : l.left ≤ l.most;
}

abbrev pub decreases-loop-cpu : goal.decreases-loop-cpu
decreases-loop-cpu l = l.left
