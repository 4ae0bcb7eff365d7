use Rattle.std.proofs.Common.{◌≡◌}
use Rattle.guest_space.specs.Access.{first_denied}
use Rattle.guest_space.proofs.walk.first_denied.Given as goal

abbrev pub invariant-loop-left : goal.invariant-loop-left
invariant-loop-left l = first_denied l.access l.pages l.fn.address l.fn.n ≡ first_denied l.access l.pages l.at l.left

abbrev pub decreases-loop-left : goal.decreases-loop-left
decreases-loop-left l = l.left
