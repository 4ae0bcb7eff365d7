use Rattle.std.proofs.Common.{length}
use Rattle.std.specs.List.{flat_map}
use Rattle.byteorder.specs.Endian.{big_bytes}
use Rattle.journal.specs.Text.{effect_text}
use Rattle.std.proofs.lemmas.Result.{err_from_is_err_and}
use Rattle.journal.proofs.Gains.{prefix_first, adds_then}
use Rattle.journal.proofs.writing.put_all_effects.Goals as goal

pub returns-in_err-put_number : goal.returns-in_err-put_number
returns-in_err-put_number c =
    let p = err_from_is_err_and c.from_residual.result c.from_residual.ensures.1 in
    rw p.1 (prefix_first (big_bytes 4 (length c.args.effects.now)) (flat_map effect_text c.args.effects.now) c.args.out.now.items c.put_number.new.out.items c.in_err-put_number.ensures)
