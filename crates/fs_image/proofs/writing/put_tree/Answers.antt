use Rattle.std.proofs.Common.{◌++◌, length}
use Rattle.std.proofs.lemmas.Result.{err_from_is_err_and}
use Rattle.std.specs.List.{flat_map}
use Rattle.byteorder.specs.Endian.{big_bytes}
use Rattle.fs_image.specs.Text.{magic, node_text}
use Rattle.fs_image.proofs.Gains.{prefix_first, adds_then}
use Rattle.fs_image.proofs.writing.put_tree.Goals as goal

pub returns-in_err-put_front : goal.returns-in_err-put_front
returns-in_err-put_front c =
    let p = err_from_is_err_and c.from_residual.result c.from_residual.ensures.1 in
    let nodes = c.args.nodes.now in
    rw p.1 (prefix_first (magic ++ big_bytes 4 (length nodes)) (flat_map node_text nodes) c.args.out.now.items c.put_front.new.out.items c.in_err-put_front.ensures)

pub returns : goal.returns
returns c =
    let nodes = c.args.nodes.now in
    adds_then (magic ++ big_bytes 4 (length nodes)) (flat_map node_text nodes) c.put_nodes.result c.args.out.now.items c.put_front.new.out.items c.put_nodes.new.out.items c.in_ok-put_front.ensures c.put_nodes.ensures
