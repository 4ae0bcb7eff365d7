-- The native call mirrors the row.
use Rattle.std.proofs.Common.{arith}
use Rattle.o32_model.specs.Names.{symlink_row}
use Rattle.o32_model.specs.PathArguments.{base}
use Rattle.bridge_file.proofs.Rows.{symlink_mirrors}
use Rattle.bridge_file.proofs.names.symlink.Goals as goal

pub returns-clause-row : goal.returns-clause-row
returns-clause-row g c = λ guest same memory.
    c.paths_call.ensures.row guest (symlink_row c.args.below.now.kernel.now guest c.args.target (base c.args.path.directory) c.args.path.address) same memory
    (symlink_mirrors guest c.args.below.now.kernel.now c.args.target c.args.path.address _ c.args.path.directory c.from.ensures (omega arith))

pub returns-clause-kept : goal.returns-clause-kept
returns-clause-kept g c = λ guest same memory.
    c.paths_call.ensures.kept guest (symlink_row c.args.below.now.kernel.now guest c.args.target (base c.args.path.directory) c.args.path.address) same memory
    (symlink_mirrors guest c.args.below.now.kernel.now c.args.target c.args.path.address _ c.args.path.directory c.from.ensures (omega arith))
