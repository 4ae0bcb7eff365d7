use Rattle.std.proofs.Common.{◌≡◌, List, sym, ap, subst, ◌∙◌}
use Rattle.kernel_core.specs.FileSystem.{IsFileSystem}
use Rattle.kernel_core.specs.LoadedTree.{loaded}
use Rattle.kernel_core.specs.ValidTree.{IsValidTree}
use Rattle.kernel_core.specs.declared.tree.Node.{Node}
use Rattle.kernel_core.specs.declared.tree.Tree.{Tree}
use Rattle.file_system_laws.proofs.Loading.{loaded_is_file_system}
use Rattle.native_vfs.specs.inside.Loading.{tree_of}
use Rattle.native_vfs.specs.inside.Stored.{keyed_of}
use Rattle.native_vfs.proofs.tables.Kept.{kept-of, nodes-view}
use Rattle.native_vfs.proofs.tables.Tables.{AreKeys-table}
use Rattle.native_vfs.proofs.trees.LoadedDirectories.{root-place}
use Rattle.native_vfs.proofs.trees.LoadedSystem.{nodes-loaded, whole-loaded}
use Rattle.native_vfs.proofs.vfs.Vfs.new.Goals as goal

valid_slice : (tree : Tree) (nodes : List Node) → nodes ≡ tree.nodes → IsValidTree tree → IsValidTree (tree_of nodes)
valid_slice tree nodes same valid = subst (λ ns. IsValidTree (tree_of ns)) (sym same) valid

pub place_nodes-requires-clause-valid : goal.place_nodes-requires-clause-valid
place_nodes-requires-clause-valid c = valid_slice c.args.tree c.as_slice-nodes.result.now c.as_slice-nodes.ensures c.requires.valid

pub name_nodes-requires-clause-valid : goal.name_nodes-requires-clause-valid
name_nodes-requires-clause-valid c = valid_slice c.args.tree c.as_slice-nodes.result.now c.as_slice-nodes.ensures c.requires.valid

pub node_ref-root-requires : goal.node_ref-root-requires
node_ref-root-requires c = record {
  found = root-place c.as_slice-nodes.result.now (valid_slice c.args.tree c.as_slice-nodes.result.now c.as_slice-nodes.ensures c.requires.valid) c.in_ok-places.places c.in_ok-places.ensures.found;
}

pub invariant_of-inodes : goal.invariant_of-inodes
invariant_of-inodes c =
    let whole =
    whole-loaded c.as_slice-nodes.result.now (valid_slice c.args.tree c.as_slice-nodes.result.now c.as_slice-nodes.ensures c.requires.valid) c.name_nodes.new.table c.in_ok-places.places c.in_ok-name_nodes.ensures
    c.in_ok-numbers.numbers c.entry_count.result c.block_count.result c.node_ref-root.result.key c.in_ok-numbers.ensures c.entry_count.ensures c.block_count.ensures c.node_ref-root.ensures.key in
    record { distinct = whole.distinct; pool = whole.pool; block_total = whole.block_total }

pub invariant_of-result : goal.invariant_of-result
invariant_of-result c = kept-of _ _ _ _ _ (
    whole-loaded c.as_slice-nodes.result.now (valid_slice c.args.tree c.as_slice-nodes.result.now c.as_slice-nodes.ensures c.requires.valid) c.name_nodes.new.table c.in_ok-places.places c.in_ok-name_nodes.ensures
    c.in_ok-numbers.numbers c.entry_count.result c.block_count.result c.node_ref-root.result.key c.in_ok-numbers.ensures c.entry_count.ensures c.block_count.ensures c.node_ref-root.ensures.key)

nodes_are : (c : goal.After-drop-tree-2) → (keyed_of c.name_nodes.new.table).nodes ≡ loaded c.args.tree
nodes_are c =
    nodes-view c.name_nodes.new.table
    ∙ nodes-loaded c.as_slice-nodes.result.now (valid_slice c.args.tree c.as_slice-nodes.result.now c.as_slice-nodes.ensures c.requires.valid) c.name_nodes.new.table c.in_ok-places.places c.in_ok-name_nodes.ensures
    ∙ ap (λ (ns : List Node). loaded (tree_of ns)) c.as_slice-nodes.ensures

pub returns-clause-loaded : goal.returns-clause-loaded
returns-clause-loaded c = nodes_are c

pub returns-clause-valid : goal.returns-clause-valid
returns-clause-valid c = subst IsFileSystem (sym (nodes_are c)) (loaded_is_file_system c.args.tree c.requires.valid)

pub returns-clause-keys : goal.returns-clause-keys
returns-clause-keys c = AreKeys-table c.name_nodes.new.table c.in_ok-name_nodes.ensures.distinct
