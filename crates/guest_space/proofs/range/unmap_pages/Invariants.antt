use Rattle.std.proofs.Common.{◌≡◌, ℕ, cond, None}
use Rattle.std.specs.FinMap.{get}
use Rattle.guest_space.specs.Remapping.{is_in}
use Rattle.guest_space.proofs.range.unmap_pages.Given as goal

abbrev pub invariant-loop-done : goal.invariant-loop-done
invariant-loop-done l = (number : ℕ) → get l.pages number ≡ cond (is_in l.first l.done number) None (get l.fn.pages number)
