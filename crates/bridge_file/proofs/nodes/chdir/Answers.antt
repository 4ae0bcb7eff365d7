-- The native call mirrors the row.
use Rattle.o32_model.specs.NodeCalls.{chdir_row}
use Rattle.bridge_file.proofs.NodeRows.{chdir_mirrors}
use Rattle.bridge_file.proofs.nodes.chdir.Goals as goal

pub returns-clause-row : goal.returns-clause-row
returns-clause-row g c = λ guest same memory.
    c.path_call.ensures.row guest (chdir_row c.args.below.now.kernel.now guest c.args.address) same memory
    (chdir_mirrors guest c.args.below.now.kernel.now c.args.address)

pub returns-clause-kept : goal.returns-clause-kept
returns-clause-kept g c = λ guest same memory.
    c.path_call.ensures.kept guest (chdir_row c.args.below.now.kernel.now guest c.args.address) same memory
    (chdir_mirrors guest c.args.below.now.kernel.now c.args.address)
