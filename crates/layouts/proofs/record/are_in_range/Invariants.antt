use Rattle.std.proofs.Common.{◌≡◌, drop}
use Rattle.layouts.specs.Shape.{are_in_range}
use Rattle.layouts.proofs.record.are_in_range.Given as goal

-- what is left to look at decides
abbrev pub invariant-loop-place : goal.invariant-loop-place
invariant-loop-place l = are_in_range (drop l.place l.fields) (drop l.place l.values) ≡ are_in_range l.fields l.values
