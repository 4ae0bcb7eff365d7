use Rattle.std.proofs.Common.{◌≡◌, ℕ, take}
use Rattle.kernel_core.specs.ValidTree.{times_named}
use Rattle.fs_image.specs.inside.Walk.{count_of}
use Rattle.fs_image.proofs.walk.count_names.Given as goal

abbrev pub invariant-loop-node : goal.invariant-loop-node
invariant-loop-node l = (q : ℕ) → count_of l.counts q ≡ times_named (take l.node-index l.nodes) q
