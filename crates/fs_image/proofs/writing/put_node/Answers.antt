use Rattle.std.proofs.lemmas.Result.{err_from_is_err_and}
use Rattle.fs_image.specs.Text.{head_text, kind_text}
use Rattle.fs_image.proofs.Gains.{prefix_first, adds_then}
use Rattle.fs_image.proofs.writing.put_node.Goals as goal

pub returns-in_err-put_head : goal.returns-in_err-put_head
returns-in_err-put_head c =
    let p = err_from_is_err_and c.from_residual.result c.from_residual.ensures.1 in
    rw p.1 (prefix_first (head_text c.args.node.now) (kind_text c.args.node.now.kind) c.args.out.now.items c.put_head.new.out.items c.in_err-put_head.ensures)

pub returns : goal.returns
returns c = adds_then (head_text c.args.node.now) (kind_text c.args.node.now.kind) c.put_kind.result c.args.out.now.items c.put_head.new.out.items c.put_kind.new.out.items c.in_ok-put_head.ensures c.put_kind.ensures
