use Rattle.std.proofs.Common.{ap, ◌∙◌}
use Rattle.std.specs.FinMap.{get}
use Rattle.native_vfs.specs.inside.Loading.{bare_inode}
use Rattle.native_vfs.specs.inside.Stored.{nodes_of}
use Rattle.native_vfs.proofs.trees.LoadedNodes.{placed-none, placed-new, placed-next}
use Rattle.native_vfs.proofs.loading.place_nodes.Goals as goal

pub loop-node-init : goal.loop-node-init
loop-node-init c = placed-none c.args.table.now c.requires.empty c.args.nodes.now c.new-places.result c.new-places.ensures.empty

pub insert-requires-clause-new : goal.insert-requires-clause-new
insert-requires-clause-new c =
    ap (get (nodes_of c.loop-node.table)) c.in_ok-stored.ensures.number
    ∙ placed-new c.args.nodes.now c.loop-node.node-index c.node-item.result c.loop-node-test.true c.node-item.is c.requires.valid.rising c.loop-node.table c.loop-node.places c.loop-node.invariant

pub loop-node-preserved : goal.loop-node-preserved
loop-node-preserved c =
    placed-next c.args.nodes.now c.loop-node.node-index c.node-item.result c.loop-node-test.true c.node-item.is c.requires.valid.rising c.loop-node.table c.loop-node.places c.loop-node.invariant
    c.insert.new.table c.in_ok-key.key c.in_ok-stored.stored c.insert-in-loop-node.new.self c.in_ok-key.ensures.ok c.in_ok-stored.ensures.number
    (c.in_ok-stored.ensures.inode ∙ ap (λ t. bare_inode t c.node-item.result) (c.times-times.ensures ∙ c.requires.namings.times c.node-item.result.number))
    c.in_ok-insert.ensures.updates.0
