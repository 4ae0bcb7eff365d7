use Rattle.std.proofs.Common.{◌≡◌, ◌+◌, ◌≤◌, drop}
use Rattle.o32_model.specs.GuestBytes.{all_accessible, total, sum_limit}
use Rattle.bridge_mem.proofs.vectors.writable_length.Given as goal

-- the bytes so far and those of the buffers to come are all
abbrev pub invariant-loop-range : goal.invariant-loop-range
invariant-loop-range l = record {
  all : l.sum + all_accessible l.space (drop l.range-index l.ranges) ≡ all_accessible l.space l.ranges;
  bound : l.sum + total (drop l.range-index l.ranges) ≤ sum_limit;
}
