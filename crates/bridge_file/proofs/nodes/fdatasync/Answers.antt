-- The native call mirrors the row.
use Rattle.o32_model.specs.NodeCalls.{sync_row}
use Rattle.bridge_file.proofs.NodeRows.{fdatasync_mirrors}
use Rattle.bridge_file.proofs.nodes.fdatasync.Goals as goal

pub returns-clause-row : goal.returns-clause-row
returns-clause-row g c = λ guest same.
    c.number_call.ensures.row guest (sync_row c.args.below.now.kernel.now guest c.args.fd) same
    (λ left. fdatasync_mirrors guest c.args.below.now.kernel.now c.clear.new.self left _ c.args.fd c.from.ensures c.ranges.fd.fits)

pub returns-clause-kept : goal.returns-clause-kept
returns-clause-kept g c = λ guest same.
    c.number_call.ensures.kept guest (sync_row c.args.below.now.kernel.now guest c.args.fd) same
    (λ left. fdatasync_mirrors guest c.args.below.now.kernel.now c.clear.new.self left _ c.args.fd c.from.ensures c.ranges.fd.fits)
