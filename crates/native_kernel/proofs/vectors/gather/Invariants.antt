use Rattle.std.proofs.Common.{◌≡◌, ◌++◌, drop}
use Rattle.native_calls.specs.HostBytes.{all_loadable}
use Rattle.native_kernel.proofs.vectors.gather.Given as goal

-- with those of the buffers to come, the bytes so far are all
abbrev pub invariant-loop-range : goal.invariant-loop-range
invariant-loop-range l = l.bytes.items ++ all_loadable l.mem (drop l.range-index l.ranges) ≡ all_loadable l.mem l.ranges
