use Rattle.std.proofs.Common.{◌≡◌, ◌+◌, ◌≤◌, drop}
use Rattle.o32_model.specs.GuestBytes.{total, sum_limit}
use Rattle.bridge_mem.specs.inside.Lengths.{all_readable}
use Rattle.bridge_mem.proofs.vectors.readable_length.Given as goal

-- the bytes so far and those of the buffers to come are all
abbrev pub invariant-loop-range : goal.invariant-loop-range
invariant-loop-range l = record {
  all : l.sum + all_readable l.space (drop l.range-index l.ranges) ≡ all_readable l.space l.ranges;
  bound : l.sum + total (drop l.range-index l.ranges) ≤ sum_limit;
}
