use Rattle.std.proofs.Common.{◌≡◌, ◌+◌, ◌≤◌, drop}
use Rattle.native_calls.specs.HostBytes.{all_accessible, sum_limit, total}
use Rattle.native_kernel.proofs.vectors.all_accessible.Given as goal

-- the bytes so far and those of the buffers to come are all
abbrev pub invariant-loop-range : goal.invariant-loop-range
invariant-loop-range l = record {
  all : l.sum + all_accessible l.mem (drop l.range-index l.ranges) ≡ all_accessible l.mem l.ranges;
  bound : l.sum + total (drop l.range-index l.ranges) ≤ sum_limit;
}
