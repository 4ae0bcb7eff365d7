-- The native call mirrors the row.
use Rattle.std.specs.Int.{cast_signed, w64}
use Rattle.o32_model.specs.NodeCalls.{ftruncate_row}
use Rattle.bridge_file.proofs.SizeRows.{ftruncate_mirrors}
use Rattle.bridge_file.proofs.sizes.ftruncate.Goals as goal

pub returns-clause-row : goal.returns-clause-row
returns-clause-row g c = λ guest same.
    c.number_call.ensures.row guest (ftruncate_row c.args.below.now.kernel.now guest c.args.fd (cast_signed w64 c.args.size)) same
    (λ left. ftruncate_mirrors guest c.args.below.now.kernel.now _ left _ c.args.fd c.args.size c.from.ensures c.ranges.fd.fits)

pub returns-clause-kept : goal.returns-clause-kept
returns-clause-kept g c = λ guest same.
    c.number_call.ensures.kept guest (ftruncate_row c.args.below.now.kernel.now guest c.args.fd (cast_signed w64 c.args.size)) same
    (λ left. ftruncate_mirrors guest c.args.below.now.kernel.now _ left _ c.args.fd c.args.size c.from.ensures c.ranges.fd.fits)
