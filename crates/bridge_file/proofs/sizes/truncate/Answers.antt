-- The native call mirrors the row.
use Rattle.std.specs.Int.{cast_signed, w64}
use Rattle.o32_model.specs.NodeCalls.{truncate_row}
use Rattle.bridge_file.proofs.SizeRows.{truncate_mirrors}
use Rattle.bridge_file.proofs.sizes.truncate.Goals as goal

pub returns-clause-row : goal.returns-clause-row
returns-clause-row g c = λ guest same memory.
    c.path_call.ensures.row guest (truncate_row c.args.below.now.kernel.now guest c.args.address (cast_signed w64 c.args.size)) same memory
    (truncate_mirrors guest c.args.below.now.kernel.now c.args.address c.args.size)

pub returns-clause-kept : goal.returns-clause-kept
returns-clause-kept g c = λ guest same memory.
    c.path_call.ensures.kept guest (truncate_row c.args.below.now.kernel.now guest c.args.address (cast_signed w64 c.args.size)) same memory
    (truncate_mirrors guest c.args.below.now.kernel.now c.args.address c.args.size)
