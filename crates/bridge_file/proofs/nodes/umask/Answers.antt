-- The native call mirrors the row.
use Rattle.o32_model.specs.NodeCalls.{umask_row}
use Rattle.bridge_file.proofs.NodeRows.{umask_mirrors}
use Rattle.bridge_file.proofs.nodes.umask.Goals as goal

pub returns-clause-row : goal.returns-clause-row
returns-clause-row g c = λ guest same.
    c.number_call.ensures.row guest (umask_row c.args.below.now.kernel.now guest c.args.mask) same
    (λ left. umask_mirrors guest c.args.below.now.kernel.now c.clear.new.self left _ c.args.mask c.files_valid.ensures.umask c.from.ensures c.ranges.mask.fits)

pub returns-clause-kept : goal.returns-clause-kept
returns-clause-kept g c = λ guest same.
    c.number_call.ensures.kept guest (umask_row c.args.below.now.kernel.now guest c.args.mask) same
    (λ left. umask_mirrors guest c.args.below.now.kernel.now c.clear.new.self left _ c.args.mask c.files_valid.ensures.umask c.from.ensures c.ranges.mask.fits)
