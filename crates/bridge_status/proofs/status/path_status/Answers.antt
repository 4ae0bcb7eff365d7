-- The native call tells the status.
use Rattle.std.proofs.Common.{ap, arith, ◌∙◌}
use Rattle.guest_space.specs.Memory.{Memory}
use Rattle.o32_model.specs.PathArguments.{base}
use Rattle.o32_model.specs.Paths.{path_at}
use Rattle.bridge_paths.proofs.Passed.{fails_before}
use Rattle.bridge_status.proofs.StatusRows.{fstatat_tells}
use Rattle.bridge_status.specs.inside.StatusCalls.{path_status}
use Rattle.bridge_status.proofs.status.path_status.Goals as goal

pub returns-in_err-at-clause-row : goal.returns-in_err-at-clause-row
returns-in_err-at-clause-row g c = λ guest same memory left told.
    fails_before (path_status c.args.asked.to.form c.args.below.now.kernel.now guest (base c.args.asked.directory) c.args.asked.address c.args.asked.to.address c.args.asked.flags left) c.from_residual.result _ _ _ _ c.from_residual.ensures.0

pub returns-clause-row : goal.returns-clause-row
returns-clause-row g c = λ guest same memory.
    c.tell_call.ensures.row guest (path_status c.args.asked.to.form c.args.below.now.kernel.now guest (base c.args.asked.directory) c.args.asked.address c.args.asked.to.address c.args.asked.flags) same memory
    (λ left. fstatat_tells guest c.args.below.now.kernel.now c.args.asked.to.form c.args.asked.address c.args.asked.to.address _ c.in_ok-at.at _ c.args.asked.directory c.args.asked.flags c.args.path.now c.put_behind.new.mem left c.files_valid.ensures.nodes c.from.ensures c.from-2.ensures
    (omega arith) (omega arith) (ap (λ (m : Memory). path_at m c.args.asked.address) memory ∙ c.requires.found) c.in_ok-at.ensures.path c.in_ok-at.ensures.room)

pub returns-clause-kept : goal.returns-clause-kept
returns-clause-kept g c = λ guest same memory.
    c.tell_call.ensures.kept guest (path_status c.args.asked.to.form c.args.below.now.kernel.now guest (base c.args.asked.directory) c.args.asked.address c.args.asked.to.address c.args.asked.flags) same memory
    (λ left. fstatat_tells guest c.args.below.now.kernel.now c.args.asked.to.form c.args.asked.address c.args.asked.to.address _ c.in_ok-at.at _ c.args.asked.directory c.args.asked.flags c.args.path.now c.put_behind.new.mem left c.files_valid.ensures.nodes c.from.ensures c.from-2.ensures
    (omega arith) (omega arith) (ap (λ (m : Memory). path_at m c.args.asked.address) memory ∙ c.requires.found) c.in_ok-at.ensures.path c.in_ok-at.ensures.room)
