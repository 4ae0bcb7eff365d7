-- The native call mirrors the row.
use Rattle.std.proofs.Common.{Some, arith}
use Rattle.o32_model.specs.Opening.{open_row}
use Rattle.o32_model.specs.PathArguments.{base}
use Rattle.bridge_paths.proofs.Passed.{fails_before}
use Rattle.bridge_open.proofs.OpenRows.{open_mirrors, open_unused}
use Rattle.bridge_open.proofs.opening.open_now.Goals as goal

pub returns-in_err-put_one-clause-row : goal.returns-in_err-put_one-clause-row
returns-in_err-put_one-clause-row g c = λ guest same there free left told.
    fails_before (open_row c.args.below.now.kernel.now guest (base c.args.opening.directory) c.args.opening.address (Some c.args.opening.flags) c.args.opening.mode left) c.from_residual.result _ _ _ _ c.from_residual.ensures.0

pub returns-clause-row : goal.returns-clause-row
returns-clause-row g c = λ guest same there free.
    c.number_call.ensures.row guest (open_row c.args.below.now.kernel.now guest (base c.args.opening.directory) c.args.opening.address (Some c.args.opening.flags) c.args.opening.mode) same
    (λ left. open_mirrors guest c.args.below.now.kernel.now c.args.opening.address _ _ _ c.args.opening.directory c.args.opening.mode c.args.opening.flags c.args.path.now c.put_one.new.mem left c.whole.ensures c.requires.listed
    c.from.ensures c.to_native.ensures c.handed.ensures (omega arith) (omega arith) there c.in_ok-put_one.ensures free)

pub returns-clause-kept : goal.returns-clause-kept
returns-clause-kept g c = λ guest same there free.
    c.number_call.ensures.kept guest (open_row c.args.below.now.kernel.now guest (base c.args.opening.directory) c.args.opening.address (Some c.args.opening.flags) c.args.opening.mode) same
    (λ left. open_mirrors guest c.args.below.now.kernel.now c.args.opening.address _ _ _ c.args.opening.directory c.args.opening.mode c.args.opening.flags c.args.path.now c.put_one.new.mem left c.whole.ensures c.requires.listed
    c.from.ensures c.to_native.ensures c.handed.ensures (omega arith) (omega arith) there c.in_ok-put_one.ensures free)

pub number_call-requires-clause-unused : goal.number_call-requires-clause-unused
number_call-requires-clause-unused g c = open_unused c.from.result 65536 c.to_native.result c.handed.result c.args.opening.mode c.args.opening.flags c.to_native.ensures c.handed.ensures
