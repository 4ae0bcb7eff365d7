use Rattle.std.proofs.Common.{◌≡◌, ◌≤◌}
use Rattle.guest_space.specs.Mapping.{absent_count}
use Rattle.guest_space.proofs.range.count_absent.Given as goal

abbrev pub invariant-loop-done : goal.invariant-loop-done
invariant-loop-done l = record {
  counted : l.absent ≡ absent_count l.pages l.first l.done;
  bound : l.absent ≤ l.done;
}
