use Rattle.std.proofs.Common.{take, drop}
use Rattle.native_vfs.specs.inside.Loading.{AreNamed}
use Rattle.native_vfs.proofs.loading.name_nodes.Given as goal

-- the nodes so far have their entries
abbrev pub invariant-loop-node : goal.invariant-loop-node
invariant-loop-node l = AreNamed l.nodes (take l.node-index l.nodes) (drop l.node-index l.nodes) l.table l.places
