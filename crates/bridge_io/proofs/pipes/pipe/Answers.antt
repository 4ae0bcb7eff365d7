-- The native call mirrors the row.
use Rattle.o32_model.specs.Descriptors.{pipe_row}
use Rattle.bridge_io.proofs.PipeMirrors.{pipe_mirrors}
use Rattle.bridge_io.proofs.pipes.pipe.Goals as goal

pub returns-clause-row : goal.returns-clause-row
returns-clause-row g c = λ guest same.
    c.pair_call.ensures.row guest (pipe_row c.args.below.now.kernel.now guest) same (λ left. pipe_mirrors guest c.args.below.now.kernel.now left c.whole.ensures)

pub returns-clause-kept : goal.returns-clause-kept
returns-clause-kept g c = λ guest same.
    c.pair_call.ensures.kept guest (pipe_row c.args.below.now.kernel.now guest) same (λ left. pipe_mirrors guest c.args.below.now.kernel.now left c.whole.ensures)
