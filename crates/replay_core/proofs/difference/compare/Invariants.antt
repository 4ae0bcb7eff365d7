use Rattle.std.proofs.Common.{◌≡◌, drop}
use Rattle.replay_core.specs.Replay.{first_difference}
use Rattle.replay_core.proofs.difference.compare.Given as goal

-- what differs first lies among the words that are left
abbrev pub invariant-loop-place : goal.invariant-loop-place
invariant-loop-place l = first_difference (drop l.place l.wanted) (drop l.place l.found) ≡ first_difference l.wanted l.found
