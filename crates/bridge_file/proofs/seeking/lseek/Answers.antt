-- The native call mirrors the row.
use Rattle.std.specs.Int.{cast_signed, w32}
use Rattle.o32_model.specs.Opening.{lseek_row}
use Rattle.bridge_file.proofs.SizeRows.{lseek_mirrors}
use Rattle.bridge_file.proofs.seeking.lseek.Goals as goal

pub returns-clause-row : goal.returns-clause-row
returns-clause-row g c = λ guest same.
    c.place_call.ensures.row guest (lseek_row c.args.below.now.kernel.now guest c.args.fd (cast_signed w32 c.args.offset) c.args.origin) same
    (λ left. lseek_mirrors guest c.args.below.now.kernel.now c.clear.new.self left _ _ _ c.args.fd c.args.origin (cast_signed w32 c.args.offset) c.from.ensures c.from-2.ensures c.widened.ensures c.ranges.fd.fits c.ranges.origin.fits)

pub returns-clause-kept : goal.returns-clause-kept
returns-clause-kept g c = λ guest same.
    c.place_call.ensures.kept guest (lseek_row c.args.below.now.kernel.now guest c.args.fd (cast_signed w32 c.args.offset) c.args.origin) same
    (λ left. lseek_mirrors guest c.args.below.now.kernel.now c.clear.new.self left _ _ _ c.args.fd c.args.origin (cast_signed w32 c.args.offset) c.from.ensures c.from-2.ensures c.widened.ensures c.ranges.fd.fits c.ranges.origin.fits)
