-- The native call mirrors the row.
use Rattle.std.proofs.Common.{arith}
use Rattle.o32_model.specs.Names.{remove_directory_flag, remove_row}
use Rattle.o32_model.specs.PathArguments.{base, one_flag}
use Rattle.bridge_file.proofs.Rows.{remove_mirrors}
use Rattle.bridge_file.proofs.names.remove.Goals as goal

pub returns-clause-row : goal.returns-clause-row
returns-clause-row g c = λ guest same memory.
    c.path_call.ensures.row guest (remove_row c.args.below.now.kernel.now guest (base c.args.path.directory) c.args.path.address (one_flag remove_directory_flag c.args.flags)) same memory
    (remove_mirrors guest c.args.below.now.kernel.now c.args.path.address _ _ c.args.path.directory c.args.flags c.from.ensures c.from-2.ensures (omega arith) c.ranges.flags.fits)

pub returns-clause-kept : goal.returns-clause-kept
returns-clause-kept g c = λ guest same memory.
    c.path_call.ensures.kept guest (remove_row c.args.below.now.kernel.now guest (base c.args.path.directory) c.args.path.address (one_flag remove_directory_flag c.args.flags)) same memory
    (remove_mirrors guest c.args.below.now.kernel.now c.args.path.address _ _ c.args.path.directory c.args.flags c.from.ensures c.from-2.ensures (omega arith) c.ranges.flags.fits)
