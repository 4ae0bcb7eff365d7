-- The native call mirrors the row.
use Rattle.o32_model.specs.Descriptors.{dup3_row}
use Rattle.bridge_io.proofs.DescriptorMirrors.{dup3_mirrors}
use Rattle.bridge_io.proofs.descriptors.dup3.Goals as goal

pub returns-clause-row : goal.returns-clause-row
returns-clause-row g c = λ guest same.
    c.number_call.ensures.row guest (dup3_row c.args.below.now.kernel.now guest c.args.fd c.args.onto c.args.flags) same
    (λ left. dup3_mirrors guest c.args.below.now.kernel.now c.clear.new.self left _ _ _ c.args.fd c.args.onto c.args.flags c.from.ensures c.from-2.ensures c.from-3.ensures c.ranges.fd.fits c.ranges.onto.fits c.ranges.flags.fits)

pub returns-clause-kept : goal.returns-clause-kept
returns-clause-kept g c = λ guest same.
    c.number_call.ensures.kept guest (dup3_row c.args.below.now.kernel.now guest c.args.fd c.args.onto c.args.flags) same
    (λ left. dup3_mirrors guest c.args.below.now.kernel.now c.clear.new.self left _ _ _ c.args.fd c.args.onto c.args.flags c.from.ensures c.from-2.ensures c.from-3.ensures c.ranges.fd.fits c.ranges.onto.fits c.ranges.flags.fits)
