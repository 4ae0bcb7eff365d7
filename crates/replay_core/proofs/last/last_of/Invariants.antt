use Rattle.std.proofs.Common.{◌≡◌, length}
use Rattle.replay_core.specs.Whole.{last_behind, last_of}
use Rattle.replay_core.proofs.last.last_of.Given as goal

-- the last of those that are left is the last of all
abbrev pub invariant-loop-entry : goal.invariant-loop-entry
invariant-loop-entry l = last_behind l.last l.left ≡ last_of l.records

abbrev pub decreases-loop-entry : goal.decreases-loop-entry
decreases-loop-entry l = length l.left
