use Rattle.std.proofs.Common.{◌≡◌, ◌+◌, ◌-◌}
use Rattle.native_polls.specs.inside.FdSets.{is_told}
use Rattle.native_polls.proofs.fd_sets.ready_word.Given as goal
use Rattle.signal_sets.specs.NativeSets.{bits_where}

-- the bits of the last descriptors
abbrev pub invariant-loop-done : goal.invariant-loop-done
invariant-loop-done g l = l.word ≡ bits_where (is_told (g.F.Readiness.files l.files) l.count l.words l.side) (l.first + (64 - l.done)) l.done
