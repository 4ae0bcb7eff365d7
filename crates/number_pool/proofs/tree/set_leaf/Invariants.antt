use Rattle.std.proofs.Common.{◌≡◌, ◌+◌, ◌/◌, ◌<◌, set}
use Rattle.number_pool.specs.inside.Tree.{leaves}
use Rattle.number_pool.proofs.Mending.{IsMendedBut}
use Rattle.number_pool.proofs.tree.set_leaf.Given as goal

abbrev pub invariant-loop-node : goal.invariant-loop-node
invariant-loop-node l = record {
  positive : 0 < l.node;
  within : l.node < l.size + l.size;
  mended : IsMendedBut l.size l.flags (l.node / 2);
  marked : leaves l.size l.flags ≡ set (leaves l.size l.fn.flags) l.leaf l.taken;
}

abbrev pub decreases-loop-node : goal.decreases-loop-node
decreases-loop-node l = l.node
