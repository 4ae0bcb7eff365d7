use Rattle.std.proofs.Common.{◌≡◌, ◌+◌, sym, ap, ◌∙◌}
use Rattle.kernel_core.specs.Nodes.{is_directory}
use Rattle.native_vfs.specs.inside.Loading.{HasPlace}
use Rattle.native_vfs.specs.inside.Stored.{nodes_of}
use Rattle.native_vfs.proofs.trees.LoadedLists.{at-index}
use Rattle.native_vfs.proofs.trees.LoadedNodes.{place-number, links-more, links-same}
use Rattle.native_vfs.proofs.loading.directory_links.Goals as goal
use Rattle.native_vfs.proofs.loading.directory_links.Goals.{then-is_directory, else-is_directory}

pub node_ref-key-requires : goal.node_ref-key-requires
node_ref-key-requires c = record {
  found = at-index (λ e. HasPlace c.args.places.now e.node) c.args.entries.now c.loop-entry.entry-index c.entry-item.result c.loop-entry-test.true c.entry-item.is c.requires.found;
}

pub loop-entry-preserved : goal.loop-entry-preserved
loop-entry-preserved c =
    let told : c.is_directory.result ≡ is_directory (nodes_of c.args.table.now) c.entry-item.result.node =
    c.is_directory.ensures
    ∙ ap (is_directory (nodes_of c.args.table.now)) (place-number c.args.table.now c.args.places.now c.requires.leads c.entry-item.result.node c.node_ref-key.result.key c.node_ref-key.ensures.key) in
    elim c.if-is_directory.branch [
      | then-is_directory w ↦
          w.links-is ∙ ap (λ n. n + 1) c.loop-entry.invariant
          ∙ sym (links-more c.args.table.now c.args.entries.now c.loop-entry.entry-index c.entry-item.result c.loop-entry-test.true c.entry-item.is (sym (told) ∙ w.if-is_directory.true))
      | else-is_directory w ↦
          w.links-is ∙ c.loop-entry.invariant
          ∙ sym (links-same c.args.table.now c.args.entries.now c.loop-entry.entry-index c.entry-item.result c.loop-entry-test.true c.entry-item.is (sym (told) ∙ w.if-is_directory.false))
    ]
