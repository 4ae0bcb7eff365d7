use Rattle.std.proofs.Common.{◌≡◌, ◌↔◌, ℕ, Contains, sym, ap, subst, ◌∙◌}
use Rattle.kernel_core.specs.LoadedTree.{saved}
use Rattle.kernel_core.specs.ValidTree.{IsValidTree, IsReached, numbers}
use Rattle.kernel_core.specs.declared.tree.Tree.{Tree}
use Rattle.file_system_laws.proofs.Saving.{saved_valid, saved_iff_reached}
use Rattle.native_vfs.specs.inside.Stored.{nodes_of}
use Rattle.native_vfs.proofs.tables.Kept.{nodes-seen}
use Rattle.native_vfs.proofs.trees.SavedNodes.{have-times, saved-is}
use Rattle.native_vfs.proofs.vfs.Vfs.tree.Goals as goal

pub saved_nodes-requires : goal.saved_nodes-requires
saved_nodes-requires c = record {
  times = have-times (nodes_of c.self.inside.inodes.table) c.in_ok-linked.linked.entries c.in_ok-linked.ensures c.self.invariant.sound.system;
}

made : (c : goal.After-drop-linked-2) → ◌≡◌ {A = Tree} (record { nodes = c.from.result }) (saved (nodes_of c.self.inside.inodes.table))
made c = saved-is (nodes_of c.self.inside.inodes.table) c.in_ok-linked.linked.entries c.in_ok-linked.ensures c.from.result (c.from.ensures ∙ c.in_ok-nodes.ensures)

pub returns-clause-saved : goal.returns-clause-saved
returns-clause-saved c = made c ∙ ap saved (nodes-seen c.self.inside.inodes.table c.args.self.now c.self.view_is)

pub returns-clause-valid : goal.returns-clause-valid
returns-clause-valid c = subst IsValidTree (sym (made c)) (saved_valid (nodes_of c.self.inside.inodes.table) c.self.invariant.sound.system)

pub returns-clause-reached : goal.returns-clause-reached
returns-clause-reached c =
    subst (λ (t : Tree). (number : ℕ) → Contains (numbers t.nodes) number ↔ IsReached t.nodes number) (sym (made c))
    (saved_iff_reached (nodes_of c.self.inside.inodes.table) c.self.invariant.sound.system)
