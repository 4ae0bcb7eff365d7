use Rattle.std.proofs.Common.{take}
use Rattle.native_vfs.specs.inside.Loading.{ArePlaced}
use Rattle.native_vfs.proofs.loading.place_nodes.Given as goal

-- the nodes so far are in the table
abbrev pub invariant-loop-node : goal.invariant-loop-node
invariant-loop-node l = ArePlaced l.nodes (take l.node-index l.nodes) l.table l.places
