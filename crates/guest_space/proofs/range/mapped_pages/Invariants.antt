use Rattle.std.proofs.Common.{◌≡◌, ◌≤◌, ◌+◌, ◌-◌}
use Rattle.guest_space.specs.Mapping.{mapped_run}
use Rattle.guest_space.proofs.range.mapped_pages.Given as goal

abbrev pub invariant-loop-done : goal.invariant-loop-done
invariant-loop-done l = record {
  within : l.done ≤ l.count;
  counted : mapped_run l.pages l.first l.count ≡ mapped_run l.pages (l.first + l.done) (l.count - l.done) + l.done;
}

abbrev pub decreases-loop-done : goal.decreases-loop-done
decreases-loop-done l = l.count - l.done
