use Rattle.std.proofs.Common.{◌≡◌, ◌≤◌, ◌<◌, ℕ, None, get_or, is_some, not}
use Rattle.raw_pages.proofs.leaf.last_entry.Given as goal

abbrev pub invariant-loop-at : goal.invariant-loop-at
invariant-loop-at l = record {
  within : l.at ≤ l.end;
  none : (place : ℕ) → l.at ≤ place → place < l.end → is_some (get_or l.entries place None) ≡ not l.mapped;
}

abbrev pub decreases-loop-at : goal.decreases-loop-at
decreases-loop-at l = l.at
