use Rattle.std.proofs.Common.{◌≡◌, ◌+◌, ◌≤◌, ◌++◌, take, drop, length}
use Rattle.o32_model.specs.GuestBytes.{all_loadable}
use Rattle.bridge_mem.proofs.Ranges.{to_come, count_to_come}
use Rattle.bridge_mem.proofs.vectors.gather.Given as goal

-- the bytes so far and those of the buffers to come are all
abbrev pub invariant-loop-range : goal.invariant-loop-range
invariant-loop-range l = record {
  all : all_loadable l.space l.ranges ≡ take l.done l.bytes ++ to_come l.space (drop l.range-index l.ranges) l.done (length l.fn.bytes);
  count : l.done + count_to_come l.space (drop l.range-index l.ranges) l.done (length l.fn.bytes) ≡ length l.fn.bytes;
  within : l.done ≤ length l.fn.bytes;
}
