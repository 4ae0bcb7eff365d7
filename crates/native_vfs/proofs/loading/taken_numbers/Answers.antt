use Rattle.std.proofs.Common.{subst}
use Rattle.std.proofs.lemmas.List.{take_all}
use Rattle.native_vfs.proofs.trees.LoadedNumbers.{AreTaken, taken-none, taken-all}
use Rattle.native_vfs.proofs.loading.taken_numbers.Goals as goal

pub loop-node-init : goal.loop-node-init
loop-node-init c = taken-none c.in_ok-numbers.numbers c.in_ok-numbers.ensures.free c.in_ok-numbers.ensures.whole

pub returns : goal.returns
returns c =
    taken-all c.args.nodes.now c.loop-node.numbers
    (subst (λ ns. AreTaken ns c.loop-node.numbers) (take_all c.loop-node.node-index c.args.nodes.now c.loop-node-test.false) c.loop-node.invariant)
