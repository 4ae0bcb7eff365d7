use Rattle.std.proofs.Common.{◌+◌, ◌<◌, length, sym, subst}
use Rattle.kernel_core.specs.ValidTree.{names_in}
use Rattle.native_vfs.specs.inside.Loading.{Notes, times_at}
use Rattle.native_vfs.proofs.trees.LoadedLists.{few-names, namings-next}
use Rattle.native_vfs.proofs.loading.namings.Goals as goal

pub note_names-requires : goal.note_names-requires
note_names-requires c = record {
  few = λ q. subst (λ es. times_at c.loop-node.namings q + length es < 4_294_967_296) (sym c.entries.ensures)
      (few-names c.args.nodes.now c.loop-node.node-index c.node-item.result c.loop-node-test.true c.node-item.is c.loop-node.namings c.loop-node.invariant c.requires.few q);
}

pub loop-node-preserved : goal.loop-node-preserved
loop-node-preserved c =
    namings-next c.args.nodes.now c.loop-node.node-index c.node-item.result c.loop-node-test.true c.node-item.is c.loop-node.namings c.loop-node.invariant c.note_names.new.namings
    (subst (λ es. Notes c.loop-node.namings c.note_names.new.namings c.node-item.result.number (names_in es)) c.entries.ensures c.in_ok-note_names.ensures)
