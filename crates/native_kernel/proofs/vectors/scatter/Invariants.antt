use Rattle.std.proofs.Common.{◌≡◌, drop}
use Rattle.native_calls.specs.HostBytes.{all_written}
use Rattle.native_kernel.proofs.vectors.scatter.Given as goal

-- with the rest in the buffers to come, memory is what it will be
abbrev pub invariant-loop-range : goal.invariant-loop-range
invariant-loop-range l = all_written l.mem (drop l.range-index l.ranges) l.rest ≡ all_written l.fn.mem l.ranges l.bytes
