use Rattle.std.proofs.Common.{◌≡◌, ◌-◌}
use Rattle.kernel_model.specs.Readiness.{names_closed}
use Rattle.native_polls.specs.inside.FdSets.{fds_from, fds_of}
use Rattle.native_polls.proofs.fd_sets.names_closed.Given as goal

-- the descriptors to come decide
abbrev pub invariant-loop-fd : goal.invariant-loop-fd
invariant-loop-fd g l = names_closed (g.F.Readiness.files l.files) (fds_from l.words l.fd (l.count - l.fd)) ≡ names_closed (g.F.Readiness.files l.files) (fds_of l.count l.words)
