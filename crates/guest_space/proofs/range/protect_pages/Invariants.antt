use Rattle.std.proofs.Common.{◌≡◌}
use Rattle.guest_space.specs.Mapping.{with_protection}
use Rattle.guest_space.proofs.range.protect_pages.Given as goal

abbrev pub invariant-loop-done : goal.invariant-loop-done
invariant-loop-done l = l.pages ≡ with_protection l.fn.pages l.first l.done l.protection
