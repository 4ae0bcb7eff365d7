use Rattle.std.proofs.Common.{◌≡◌, ◌+◌, length, drop}
use Rattle.std.specs.List.{flat_map}
use Rattle.fs_image.specs.Text.{node_text}
use Rattle.fs_image.specs.Naming.{stray_node}
use Rattle.fs_image.proofs.naming.stray_node.Given as goal

-- what is left fails where all of it does, and ends where all of it ends
abbrev pub invariant-loop-node : goal.invariant-loop-node
invariant-loop-node l = record {
  same : stray_node l.nodes l.place (drop l.node-index l.nodes) ≡ stray_node l.nodes 12 l.nodes;
  end : l.place + length (flat_map node_text (drop l.node-index l.nodes)) ≡ 12 + length (flat_map node_text l.nodes);
}
