use Rattle.std.proofs.Common.{◌≡◌, ◌+◌, ◌-◌, ◌≤◌, length}
use Rattle.native_polls.specs.inside.FdSets.{fds_from, fds_of}
use Rattle.native_polls.proofs.fd_sets.size_of.Given as goal

-- those so far and those to come are all
abbrev pub invariant-loop-fd : goal.invariant-loop-fd
invariant-loop-fd l = record {
  all : l.size + length (fds_from l.words l.fd (l.count - l.fd)) ≡ length (fds_of l.count l.words);
  bound : l.size ≤ l.fd;
}
