-- The native call tells the status.
use Rattle.std.proofs.Common.{arith}
use Rattle.o32_model.specs.Words.{argument}
use Rattle.bridge_paths.proofs.Passed.{fails_before}
use Rattle.bridge_status.proofs.StatusRows.{fstat_tells}
use Rattle.bridge_status.specs.inside.StatusCalls.{open_status}
use Rattle.bridge_status.proofs.status.fstat.Goals as goal

pub returns-in_err-fresh_room-clause-row : goal.returns-in_err-fresh_room-clause-row
returns-in_err-fresh_room-clause-row g c = λ guest same memory left told.
    fails_before (open_status c.args.form c.args.below.now.kernel.now guest (argument c.args.words.now 0) (argument c.args.words.now 1) left) c.from_residual.result _ _ _ _ c.from_residual.ensures.0

pub returns-clause-row : goal.returns-clause-row
returns-clause-row g c = λ guest same memory.
    c.tell_call.ensures.row guest (open_status c.args.form c.args.below.now.kernel.now guest (argument c.args.words.now 0) (argument c.args.words.now 1)) same memory
    (λ left. fstat_tells guest c.args.below.now.kernel.now c.args.form (argument c.args.words.now 1) _ (argument c.args.words.now 0) c.fresh_room.new.mem left c.files_valid.ensures.nodes c.from.ensures (omega arith) c.in_ok-fresh_room.ensures)

pub returns-clause-kept : goal.returns-clause-kept
returns-clause-kept g c = λ guest same memory.
    c.tell_call.ensures.kept guest (open_status c.args.form c.args.below.now.kernel.now guest (argument c.args.words.now 0) (argument c.args.words.now 1)) same memory
    (λ left. fstat_tells guest c.args.below.now.kernel.now c.args.form (argument c.args.words.now 1) _ (argument c.args.words.now 0) c.fresh_room.new.mem left c.files_valid.ensures.nodes c.from.ensures (omega arith) c.in_ok-fresh_room.ensures)
