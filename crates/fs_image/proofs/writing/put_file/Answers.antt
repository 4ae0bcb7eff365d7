use Rattle.std.proofs.Common.{length, ◌++◌}
use Rattle.std.proofs.lemmas.Result.{err_from_is_err_and}
use Rattle.std.specs.List.{flat_map}
use Rattle.byteorder.specs.Endian.{big_bytes}
use Rattle.fs_image.specs.Text.{block_text}
use Rattle.fs_image.proofs.Gains.{prefix_first, adds_then}
use Rattle.fs_image.proofs.writing.put_file.Goals as goal

pub returns-in_err-put_size : goal.returns-in_err-put_size
returns-in_err-put_size c =
    let p = err_from_is_err_and c.from_residual.result c.from_residual.ensures.1 in
    rw p.1 (prefix_first (big_bytes 8 c.args.size ++ big_bytes 4 (length c.args.blocks.now)) (flat_map block_text c.args.blocks.now) c.args.out.now.items c.put_size.new.out.items c.in_err-put_size.ensures)

pub returns : goal.returns
returns c = adds_then (big_bytes 8 c.args.size ++ big_bytes 4 (length c.args.blocks.now)) (flat_map block_text c.args.blocks.now) c.put_blocks.result c.args.out.now.items c.put_size.new.out.items c.put_blocks.new.out.items c.in_ok-put_size.ensures c.put_blocks.ensures
