use Rattle.std.proofs.Common.{◌≡◌, ◌-◌, ◌*◌, ◌++◌, drop}
use Rattle.native_calls.specs.HostBytes.{ranges_in}
use Rattle.native_kernel.proofs.vectors.ranges_in.Given as goal

-- with those of the structures to come, the buffers so far are all
abbrev pub invariant-loop-done : goal.invariant-loop-done
invariant-loop-done l = l.ranges.items ++ ranges_in (l.count - l.done) (drop (l.done * 16) l.bytes) ≡ ranges_in l.count l.bytes
