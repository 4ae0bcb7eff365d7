-- The native call mirrors the row.
use Rattle.std.proofs.Common.{arith}
use Rattle.o32_model.specs.Names.{rename_row}
use Rattle.o32_model.specs.PathArguments.{base}
use Rattle.bridge_file.proofs.Rows.{rename_mirrors}
use Rattle.bridge_file.proofs.names.rename.Goals as goal

pub returns-clause-row : goal.returns-clause-row
returns-clause-row g c = λ guest same memory.
    c.paths_call.ensures.row guest (rename_row c.args.below.now.kernel.now guest (base c.args.old.directory) c.args.old.address (base c.args.new.directory) c.args.new.address) same memory
    (rename_mirrors guest c.args.below.now.kernel.now c.args.old.address c.args.new.address _ _ c.args.old.directory c.args.new.directory c.from.ensures c.from-2.ensures (omega arith) (omega arith))

pub returns-clause-kept : goal.returns-clause-kept
returns-clause-kept g c = λ guest same memory.
    c.paths_call.ensures.kept guest (rename_row c.args.below.now.kernel.now guest (base c.args.old.directory) c.args.old.address (base c.args.new.directory) c.args.new.address) same memory
    (rename_mirrors guest c.args.below.now.kernel.now c.args.old.address c.args.new.address _ _ c.args.old.directory c.args.new.directory c.from.ensures c.from-2.ensures (omega arith) (omega arith))
