use Rattle.std.proofs.Common.{◌≡◌, take}
use Rattle.signal_sets.specs.inside.Gathered.{gathered}
use Rattle.signal_sets.proofs.sets.gathered.Given as goal

-- the bits so far
abbrev pub invariant-loop-k : goal.invariant-loop-k
invariant-loop-k l = l.bits ≡ gathered l.word (take l.k l.places)
