use Rattle.std.proofs.Common.{ap, ◌∙◌}
use Rattle.std.specs.BTreeMap.{get as tree_get}
use Rattle.std.specs.Ordering.{nat_cmp}
use Rattle.directory_names.specs.Names.{find_name}
use Rattle.native_vfs.specs.inside.Loading.{HasPlace}
use Rattle.native_vfs.proofs.trees.LoadedLists.{at-index, load-low, load-absent, names-next}
use Rattle.native_vfs.proofs.loading.loaded_names.Goals as goal

pub node_ref-node-requires : goal.node_ref-node-requires
node_ref-node-requires c = record {
  found = at-index (λ e. HasPlace c.args.places.now e.node) c.args.entries.now c.loop-entry.entry-index c.entry-item.result c.loop-entry-test.true c.entry-item.is c.requires.found;
}

pub load-requires-clause-low : goal.load-requires-clause-low
load-requires-clause-low c =
    load-low c.args.entries.now c.loop-entry.entry-index c.entry-item.result c.loop-entry-test.true c.entry-item.is c.requires.entries c.args.places.now c.loop-entry.names c.loop-entry.invariant.0

pub load-requires-clause-absent : goal.load-requires-clause-absent
load-requires-clause-absent c =
    ap (find_name c.loop-entry.names.entries) (c.in_ok-name.ensures ∙ c.as_slice.ensures)
    ∙ load-absent c.args.entries.now c.loop-entry.entry-index c.entry-item.result c.loop-entry-test.true c.entry-item.is c.requires.entries c.args.places.now c.loop-entry.names c.loop-entry.invariant.0

pub loop-entry-preserved : goal.loop-entry-preserved
loop-entry-preserved c = (
  names-next c.args.entries.now c.loop-entry.entry-index c.entry-item.result c.loop-entry-test.true c.entry-item.is c.requires.entries c.args.places.now c.loop-entry.names c.loop-entry.invariant.0
      c.load.new.self c.in_ok-name.name c.node_ref-node.result (c.in_ok-name.ensures ∙ c.as_slice.ensures) c.node_ref-node.ensures.number
      (ap (tree_get nat_cmp c.args.places.now) c.node_ref-node.ensures.number ∙ c.node_ref-node.ensures.key)
      c.in_ok-load.ensures.ok,
  c.in_ok-load.ensures.valid,
)
