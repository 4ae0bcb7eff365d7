-- The native call mirrors the row.
use Rattle.o32_model.specs.NodeCalls.{fchmod_row}
use Rattle.bridge_file.proofs.NodeRows.{fchmod_mirrors}
use Rattle.bridge_file.proofs.nodes.fchmod.Goals as goal

pub returns-clause-row : goal.returns-clause-row
returns-clause-row g c = λ guest same.
    c.number_call.ensures.row guest (fchmod_row c.args.below.now.kernel.now guest c.args.fd c.args.mode) same
    (λ left. fchmod_mirrors guest c.args.below.now.kernel.now c.clear.new.self left _ _ c.args.fd c.args.mode c.from.ensures c.from-2.ensures c.ranges.fd.fits c.ranges.mode.fits)

pub returns-clause-kept : goal.returns-clause-kept
returns-clause-kept g c = λ guest same.
    c.number_call.ensures.kept guest (fchmod_row c.args.below.now.kernel.now guest c.args.fd c.args.mode) same
    (λ left. fchmod_mirrors guest c.args.below.now.kernel.now c.clear.new.self left _ _ c.args.fd c.args.mode c.from.ensures c.from-2.ensures c.ranges.fd.fits c.ranges.mode.fits)
