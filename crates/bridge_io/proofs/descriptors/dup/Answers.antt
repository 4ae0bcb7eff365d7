-- The native call mirrors the row.
use Rattle.o32_model.specs.Descriptors.{dup_row}
use Rattle.bridge_io.proofs.DescriptorMirrors.{dup_mirrors}
use Rattle.bridge_io.proofs.descriptors.dup.Goals as goal

pub returns-clause-row : goal.returns-clause-row
returns-clause-row g c = λ guest same.
    c.number_call.ensures.row guest (dup_row c.args.below.now.kernel.now guest c.args.fd) same (λ left. dup_mirrors guest c.args.below.now.kernel.now c.clear.new.self left _ c.args.fd c.whole.ensures c.from.ensures c.ranges.fd.fits)

pub returns-clause-kept : goal.returns-clause-kept
returns-clause-kept g c = λ guest same.
    c.number_call.ensures.kept guest (dup_row c.args.below.now.kernel.now guest c.args.fd) same (λ left. dup_mirrors guest c.args.below.now.kernel.now c.clear.new.self left _ c.args.fd c.whole.ensures c.from.ensures c.ranges.fd.fits)
