use Rattle.std.proofs.Common.{take}
use Rattle.native_vfs.specs.inside.Loading.{AreNamings}
use Rattle.native_vfs.proofs.loading.namings.Given as goal

-- the names of the nodes so far are noted
abbrev pub invariant-loop-node : goal.invariant-loop-node
invariant-loop-node l = AreNamings l.namings (take l.node-index l.nodes)
