-- The native call mirrors the row.
use Rattle.std.proofs.Common.{arith}
use Rattle.o32_model.specs.NodeCalls.{access_row}
use Rattle.o32_model.specs.PathArguments.{base}
use Rattle.bridge_file.proofs.NodeRows.{access_mirrors}
use Rattle.bridge_file.proofs.nodes.access.Goals as goal

pub returns-clause-row : goal.returns-clause-row
returns-clause-row g c = λ guest same memory.
    c.path_call.ensures.row guest (access_row c.args.below.now.kernel.now guest (base c.args.path.directory) c.args.path.address c.args.mode) same memory
    (access_mirrors guest c.args.below.now.kernel.now c.args.path.address _ _ c.args.path.directory c.args.mode c.from.ensures c.from-2.ensures (omega arith) c.ranges.mode.fits)

pub returns-clause-kept : goal.returns-clause-kept
returns-clause-kept g c = λ guest same memory.
    c.path_call.ensures.kept guest (access_row c.args.below.now.kernel.now guest (base c.args.path.directory) c.args.path.address c.args.mode) same memory
    (access_mirrors guest c.args.below.now.kernel.now c.args.path.address _ _ c.args.path.directory c.args.mode c.from.ensures c.from-2.ensures (omega arith) c.ranges.mode.fits)
