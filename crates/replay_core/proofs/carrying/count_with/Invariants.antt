use Rattle.std.proofs.Common.{◌≡◌, ◌≤◌}
use Rattle.guest_space.specs.Mapping.{absent_count}
use Rattle.replay_core.proofs.carrying.count_with.Given as goal

-- so many of the pages so far are absent
abbrev pub invariant-loop-done : goal.invariant-loop-done
invariant-loop-done l = record {
  counted : l.absent ≡ absent_count l.space.pages l.first l.done;
  few : l.absent ≤ l.done;
}
