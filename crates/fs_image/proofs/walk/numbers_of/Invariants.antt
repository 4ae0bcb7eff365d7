use Rattle.std.proofs.Common.{◌≡◌, ℕ, take}
use Rattle.fs_image.specs.Naming.{is_there}
use Rattle.fs_image.specs.inside.Walk.{is_in}
use Rattle.fs_image.proofs.walk.numbers_of.Given as goal

abbrev pub invariant-loop-node : goal.invariant-loop-node
invariant-loop-node l = (q : ℕ) → is_in l.numbers q ≡ is_there (take l.node-index l.nodes) q
