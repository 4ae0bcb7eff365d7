use Rattle.std.proofs.Common.{◌∷◌, ◌++◌}
use Rattle.byteorder.specs.Endian.{big_bytes}
use Rattle.std.proofs.lemmas.Result.{err_from_is_err_and}
use Rattle.journal.proofs.Gains.{prefix_first, adds_then}
use Rattle.journal.proofs.writing.put_map.Goals as goal

pub returns-in_err-put_pages : goal.returns-in_err-put_pages
returns-in_err-put_pages c =
    let p = err_from_is_err_and c.from_residual.result c.from_residual.ensures.1 in
    rw p.1 (prefix_first (3 ∷ big_bytes 4 c.args.first ++ big_bytes 4 c.args.count) (big_bytes 1 c.args.prot) c.args.out.now.items c.put_pages.new.out.items c.in_err-put_pages.ensures)
