use Rattle.std.proofs.lemmas.Result.{err_from_is_err_and}
use Rattle.fs_image.specs.Text.{node_text}
use Rattle.fs_image.proofs.Gains.{adds_next, adds_fails}
use Rattle.fs_image.proofs.writing.put_nodes.Goals as goal

pub returns-in_err-put_node : goal.returns-in_err-put_node
returns-in_err-put_node c =
    let p = err_from_is_err_and c.from_residual.result c.from_residual.ensures.1 in
    rw p.1 (adds_fails node_text c.args.nodes.now c.loop-node.node-index c.node-item.result c.args.out.now.items c.loop-node.out.items c.put_node.new.out.items c.loop-node-test.true c.node-item.is c.loop-node.invariant c.in_err-put_node.ensures)

pub loop-node-preserved : goal.loop-node-preserved
loop-node-preserved c = adds_next node_text c.args.nodes.now c.loop-node.node-index c.node-item.result c.args.out.now.items c.loop-node.out.items c.put_node.new.out.items c.loop-node-test.true c.node-item.is c.loop-node.invariant c.in_ok-put_node.ensures
