use Rattle.std.proofs.Common.{length}
use Rattle.std.proofs.lemmas.Result.{err_from_is_err_and}
use Rattle.std.specs.List.{flat_map}
use Rattle.byteorder.specs.Endian.{big_bytes}
use Rattle.fs_image.specs.Text.{entry_text}
use Rattle.fs_image.proofs.Gains.{prefix_first}
use Rattle.fs_image.proofs.writing.put_dir.Goals as goal

pub returns-in_err-put_count : goal.returns-in_err-put_count
returns-in_err-put_count c =
    let p = err_from_is_err_and c.from_residual.result c.from_residual.ensures.1 in
    rw p.1 (prefix_first (big_bytes 4 (length c.args.entries.now)) (flat_map entry_text c.args.entries.now) c.args.out.now.items c.put_count.new.out.items c.in_err-put_count.ensures)
