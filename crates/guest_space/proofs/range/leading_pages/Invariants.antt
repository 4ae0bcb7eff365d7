use Rattle.std.proofs.Common.{◌≡◌, ◌+◌, ◌-◌}
use Rattle.guest_space.specs.Mapping.{mapped_run}
use Rattle.guest_space.proofs.range.leading_pages.Given as goal

abbrev pub invariant-loop-done : goal.invariant-loop-done
invariant-loop-done l = mapped_run l.pages l.first l.count ≡ mapped_run l.pages (l.first + l.done) (l.count - l.done) + l.done
