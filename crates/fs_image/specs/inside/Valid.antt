-- What the reading of an image keeps, before the rules that speak of all nodes: a part of what a valid tree is.
use Rattle.std.specs.Prelude.{◌≡◌, ◌≤◌, true, List, length, All, Some, slice_get}
use Rattle.std.specs.List.Sorted.{IsStrictlySortedBy}
use Rattle.std.specs.Ordering.{nat_cmp}
use Rattle.kernel_core.specs.declared.tree.Tree.{Tree}
use Rattle.kernel_core.specs.declared.tree.Node.{Node}
use Rattle.kernel_core.specs.ValidTree.{IsNode, node_limit, block_limit, entry_limit, root, is_dir, numbers, all_entries, all_blocks}

-- what the reading keeps of the nodes so far
pub record AreNodes (nodes : List Node) : Type 0 where
  pub begins : (n : Node) → slice_get nodes 0 ≡ Some n → (n.number ≡ root) × (is_dir n.kind ≡ true)
  pub rising : IsStrictlySortedBy nat_cmp (numbers nodes)
  pub each : All IsNode nodes
  pub blocks : all_blocks nodes ≤ block_limit
  pub entries : all_entries nodes ≤ entry_limit

-- what the reading keeps of a tree
pub record IsRead (tree : Tree) : Type 0 where
  pub nodes : AreNodes tree.nodes
  pub some : 1 ≤ length tree.nodes
  pub few : length tree.nodes ≤ node_limit
