use Rattle.std.proofs.Common.{◌+◌, ap, sym, ◌∙◌}
use Rattle.fs_image.specs.Text.{node_text}
use Rattle.fs_image.specs.Naming.{lost_entry}
use Rattle.fs_image.proofs.Lengths.{text_end}
use Rattle.fs_image.proofs.Walks.{lost_target-found, lost_target-next, lost_target-done}
use Rattle.fs_image.proofs.naming.lost_target.Goals as goal

pub returns-in-Some : goal.returns-in-Some
returns-in-Some c =
    let told = c.lost_entry.ensures ∙ ap (lost_entry c.args.nodes.now (c.loop-node.place + 23)) c.entries-entries.ensures in
    sym c.in-Some.is ∙ lost_target-found c.args.nodes.now c.loop-node.place c.loop-node.node-index c.node-item.result c.lost_entry.result _ c.in-Some.refusal c.loop-node-test.true c.node-item.is told c.in-Some.is c.loop-node.invariant.same

pub loop-node-preserved : goal.loop-node-preserved
loop-node-preserved c =
    let told = c.lost_entry.ensures ∙ ap (lost_entry c.args.nodes.now (c.loop-node.place + 23)) c.entries-entries.ensures in
    record {
      same = rw c.node_len-place.ensures (lost_target-next c.args.nodes.now c.loop-node.place c.loop-node.node-index c.node-item.result c.lost_entry.result _ c.loop-node-test.true c.node-item.is told c.in_default.is c.loop-node.invariant.same);
      end = rw c.node_len-place.ensures (text_end node_text c.args.nodes.now c.loop-node.node-index c.loop-node.place _ c.node-item.result c.loop-node-test.true c.node-item.is c.loop-node.invariant.end);
    }

pub returns : goal.returns
returns c = sym (lost_target-done c.args.nodes.now c.loop-node.place c.loop-node.node-index _ c.loop-node-test.false c.loop-node.invariant.same)
