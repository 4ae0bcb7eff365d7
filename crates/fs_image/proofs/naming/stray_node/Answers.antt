use Rattle.std.proofs.Common.{◌≡◌, true, false, sym, ◌∙◌}
use Rattle.std.specs.Prelude.{Contains}
use Rattle.fs_image.specs.Text.{node_text}
use Rattle.fs_image.proofs.Lengths.{text_end}
use Rattle.fs_image.proofs.Walks.{in_tree, in_tree-is, stray_node-found, stray_node-next, stray_node-done}
use Rattle.fs_image.proofs.naming.stray_node.Goals as goal

pub returns-then-not-is_in_tree : goal.returns-then-not-is_in_tree
returns-then-not-is_in_tree c =
    let nodes = c.args.nodes.now in
    let node = c.node-item.result in
    let there : Contains nodes node = (c.loop-node.node-index, c.loop-node-test.true, sym c.node-item.is) in
    let stray : in_tree nodes node ≡ false = sym (c.is_in_tree.ensures ∙ in_tree-is nodes node c.args.counts.now c.args.unreached.now c.requires.counts c.requires.unreached there) ∙ c.if-not-is_in_tree.true in
    rw c.new.ensures (stray_node-found nodes c.loop-node.place c.loop-node.node-index node _ c.loop-node-test.true c.node-item.is stray c.loop-node.invariant.same)

pub loop-node-preserved : goal.loop-node-preserved
loop-node-preserved c =
    let nodes = c.args.nodes.now in
    let node = c.node-item.result in
    let there : Contains nodes node = (c.loop-node.node-index, c.loop-node-test.true, sym c.node-item.is) in
    let inside : in_tree nodes node ≡ true = sym (c.is_in_tree.ensures ∙ in_tree-is nodes node c.args.counts.now c.args.unreached.now c.requires.counts c.requires.unreached there) ∙ c.if-not-is_in_tree.false in
    record {
      same = rw c.node_len-place.ensures (stray_node-next nodes c.loop-node.place c.loop-node.node-index node _ c.loop-node-test.true c.node-item.is inside c.loop-node.invariant.same);
      end = rw c.node_len-place.ensures (text_end node_text nodes c.loop-node.node-index c.loop-node.place _ node c.loop-node-test.true c.node-item.is c.loop-node.invariant.end);
    }

pub returns : goal.returns
returns c = sym (stray_node-done c.args.nodes.now c.loop-node.place c.loop-node.node-index _ c.loop-node-test.false c.loop-node.invariant.same)
