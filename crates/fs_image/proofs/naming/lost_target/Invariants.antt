use Rattle.std.proofs.Common.{◌≡◌, ◌+◌, length, drop}
use Rattle.std.specs.List.{flat_map}
use Rattle.fs_image.specs.Text.{node_text}
use Rattle.fs_image.specs.Naming.{lost_target}
use Rattle.fs_image.proofs.naming.lost_target.Given as goal

-- what is left fails where all of it does, and ends where all of it ends
abbrev pub invariant-loop-node : goal.invariant-loop-node
invariant-loop-node l = record {
  same : lost_target l.nodes l.place (drop l.node-index l.nodes) ≡ lost_target l.nodes 12 l.nodes;
  end : l.place + length (flat_map node_text (drop l.node-index l.nodes)) ≡ 12 + length (flat_map node_text l.nodes);
}
