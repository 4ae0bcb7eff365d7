use Rattle.std.proofs.Common.{◌+◌, take, drop, sym, subst, ◌∙◌, All, List}
use Rattle.kernel_core.specs.declared.tree.DirEntry.{DirEntry}
use Rattle.native_vfs.specs.inside.Loading.{AreNamed, HasPlace, directory_links, loaded_listing, filled}
use Rattle.native_vfs.specs.inside.Steps.{IsAddition}
use Rattle.native_vfs.proofs.trees.LoadedNodes.{place-number}
use Rattle.native_vfs.proofs.trees.LoadedDirectories.{no_dir, named-none, named-plain, named-directory, told-parent, some-parent, entries-found}
use Rattle.native_vfs.proofs.loading.name_nodes.Goals as goal
use Rattle.native_vfs.proofs.loading.name_nodes.Goals.{in-Dir+in_ok-name_entries, in_default}

pub loop-node-init : goal.loop-node-init
loop-node-init c = named-none c.args.nodes.now c.args.table.now c.args.places.now c.requires.valid.rising c.requires.placed

pub parent_ref-parent-requires : goal.parent_ref-parent-requires
parent_ref-parent-requires c = record {
  found = some-parent c.args.nodes.now c.requires.valid c.args.places.now c.requires.placed.found c.args.namings.now c.requires.namings
      c.loop-node.node-index c.node-item.result c.loop-node-test.true c.node-item.is c.in-Dir.entries c.in-Dir.is;
}

pub name_entries-requires-clause-found : goal.name_entries-requires-clause-found
name_entries-requires-clause-found c =
    subst (All (λ e. HasPlace c.args.places.now e.node)) (sym c.as_slice.ensures)
    (entries-found c.args.nodes.now c.requires.valid c.args.places.now c.requires.placed.found c.args.namings.now c.requires.namings
    c.loop-node.node-index c.node-item.result c.loop-node-test.true c.node-item.is c.in-Dir.entries c.in-Dir.is)

pub loop-node-preserved : goal.loop-node-preserved
loop-node-preserved c = elim c.match-node.branch [
  | in-Dir+in_ok-name_entries w ↦
      subst (λ t. AreNamed c.args.nodes.now (take (c.loop-node.node-index + 1) c.args.nodes.now) (drop (c.loop-node.node-index + 1) c.args.nodes.now) t c.args.places.now) (sym w.table-is)
      (named-directory c.args.nodes.now c.loop-node.node-index c.node-item.result c.loop-node-test.true c.node-item.is c.requires.valid.rising c.loop-node.table c.args.places.now c.loop-node.invariant
      w.name_entries.new.table w.node_ref-key.result.key w.parent_ref-parent.result.number w.in-Dir.entries w.in-Dir.is
      (sym (told-parent c.args.nodes.now c.requires.valid c.args.places.now c.requires.placed.found c.args.namings.now c.requires.namings c.node-item.result.number) ∙ w.parent_ref-parent.ensures.number)
      (place-number c.loop-node.table c.args.places.now c.loop-node.invariant.leads c.node-item.result.number w.node_ref-key.result.key w.node_ref-key.ensures.key)
      (subst (λ (es : List DirEntry). IsAddition c.loop-node.table w.name_entries.new.table w.node_ref-key.result.key (filled (directory_links c.loop-node.table es) (loaded_listing w.parent_ref-parent.result.number es)))
      w.as_slice.ensures w.in_ok-name_entries.ensures))
  | in_default w ↦
      subst (λ t. AreNamed c.args.nodes.now (take (c.loop-node.node-index + 1) c.args.nodes.now) (drop (c.loop-node.node-index + 1) c.args.nodes.now) t c.args.places.now) (sym w.table-is)
      (named-plain c.args.nodes.now c.loop-node.node-index c.node-item.result c.loop-node-test.true c.node-item.is c.requires.valid.rising c.loop-node.table c.args.places.now c.loop-node.invariant
      (no_dir c.node-item.result.kind w.in_default.not-Dir))
]
