use Rattle.std.proofs.Common.{◌≡◌, ◌≤◌, ◌<◌, ℕ, is_some, not}
use Rattle.raw_pages.specs.inside.Tables.{entry_of}
use Rattle.raw_pages.proofs.table.last.Given as goal

abbrev pub invariant-loop-past : goal.invariant-loop-past
invariant-loop-past l = record {
  within : l.past ≤ l.end;
  none : (number : ℕ) → l.past ≤ number → number < l.end → is_some (entry_of l.leaves number) ≡ not l.mapped;
}

abbrev pub decreases-loop-past : goal.decreases-loop-past
decreases-loop-past l = l.past
