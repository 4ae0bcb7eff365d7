use Rattle.guest_space.specs.Remapping.{AreMoved}
use Rattle.guest_space.proofs.range.move_pages.Given as goal

abbrev pub invariant-loop-done : goal.invariant-loop-done
invariant-loop-done l = AreMoved l.fn.pages l.pages l.first l.to l.done
