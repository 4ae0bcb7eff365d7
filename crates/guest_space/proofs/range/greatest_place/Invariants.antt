use Rattle.std.proofs.Common.{◌≤◌, ◌+◌, ℕ}
use Rattle.guest_space.specs.Places.{IsPlace, places_begin, places_end}
use Rattle.guest_space.proofs.range.greatest_place.Given as goal

abbrev pub invariant-loop-end : goal.invariant-loop-end
invariant-loop-end l = record {
  from_begin : places_begin ≤ l.end;
  to_end : l.end ≤ places_end;
  above : (other : ℕ) → IsPlace l.pages l.count other → other + l.count ≤ l.end;
}

abbrev pub decreases-loop-end : goal.decreases-loop-end
decreases-loop-end l = l.end
