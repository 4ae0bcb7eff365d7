use Rattle.std.proofs.Common.{take}
use Rattle.native_vfs.proofs.trees.LoadedNumbers.{AreTaken}
use Rattle.native_vfs.proofs.loading.taken_numbers.Given as goal

-- the numbers of the nodes so far are taken
abbrev pub invariant-loop-node : goal.invariant-loop-node
invariant-loop-node l = AreTaken (take l.node-index l.nodes) l.numbers
