use Rattle.std.proofs.Common.{◌≡◌, ◌+◌, ◌-◌, ◌*◌, ◌%◌, ◌++◌, length}
use Rattle.bridge_poll.proofs.Pushing.{pushed_from}
use Rattle.bridge_poll.proofs.entries.push_entries.Given as goal

-- with the entries to come, memory is what it will be
abbrev pub invariant-loop-done : goal.invariant-loop-done
invariant-loop-done l = record {
  all : l.mem ++ pushed_from l.space.pages (l.entries.address + l.done * 8) (l.entries.count - l.done) ≡ l.fn.mem ++ pushed_from l.space.pages l.entries.address l.entries.count;
  aligned : length l.mem % 8 ≡ 0;
}
