use Rattle.std.proofs.Common.{◌≤◌, drop, length}
use Rattle.o32_model.specs.GuestBytes.{all_accessible}
use Rattle.bridge_mem.proofs.Ranges.{Scattered}
use Rattle.bridge_mem.proofs.vectors.scatter.Given as goal

-- where all bytes may be stored, the memory so far with the rest in the buffers to come is the memory with all of them
abbrev pub invariant-loop-range : goal.invariant-loop-range
invariant-loop-range l = length l.bytes ≤ all_accessible l.fn.space l.ranges → Scattered l.fn.space l.space l.ranges (drop l.range-index l.ranges) l.bytes l.rest
