-- The row of a vector that is right, and of one that is wrong.
use Rattle.std.proofs.Common.{ap, sym, ◌∙◌, arith}
use Rattle.guest_space.specs.Memory.{Memory}
use Rattle.o32_model.specs.GuestBytes.{vector}
use Rattle.o32_model.specs.Transfers.{writev_row}
use Rattle.o32_model.specs.Words.{argument}
use Rattle.bridge_io.proofs.WritevMirrors.{writev_wrong}
use Rattle.bridge_io.proofs.gathering.writev.Goals as goal

pub returns-in-Ok-clause-row : goal.returns-in-Ok-clause-row
returns-in-Ok-clause-row g c = λ guest same memory.
    c.write_buffers.ensures.row guest (argument c.args.words.now 1) (argument c.args.words.now 2) same memory
    (ap (λ (m : Memory). vector m (argument c.args.words.now 1) (argument c.args.words.now 2)) memory ∙ sym c.read.ensures ∙ c.in-Ok.is)

pub returns-in-Ok-clause-kept : goal.returns-in-Ok-clause-kept
returns-in-Ok-clause-kept g c = λ guest same memory.
    c.write_buffers.ensures.kept guest (argument c.args.words.now 1) (argument c.args.words.now 2) same memory
    (ap (λ (m : Memory). vector m (argument c.args.words.now 1) (argument c.args.words.now 2)) memory ∙ sym c.read.ensures ∙ c.in-Ok.is)

pub returns-in-Err-clause-row : goal.returns-in-Err-clause-row
returns-in-Err-clause-row g c = λ guest same memory.
    c.number_call.ensures.row guest (writev_row c.args.below.now.kernel.now guest (argument c.args.words.now 0) (argument c.args.words.now 1) (argument c.args.words.now 2)) same
    (λ left. writev_wrong guest c.args.below.now.kernel.now c.args.below.now.memory.now left _ _ (argument c.args.words.now 0) (argument c.args.words.now 1) (argument c.args.words.now 2) c.in-Err.error
    (ap (λ (m : Memory). vector m (argument c.args.words.now 1) (argument c.args.words.now 2)) memory ∙ sym c.read.ensures ∙ c.in-Err.is) c.from.ensures c.wrong_count.ensures (omega arith))

pub returns-in-Err-clause-kept : goal.returns-in-Err-clause-kept
returns-in-Err-clause-kept g c = λ guest same memory.
    c.number_call.ensures.kept guest (writev_row c.args.below.now.kernel.now guest (argument c.args.words.now 0) (argument c.args.words.now 1) (argument c.args.words.now 2)) same
    (λ left. writev_wrong guest c.args.below.now.kernel.now c.args.below.now.memory.now left _ _ (argument c.args.words.now 0) (argument c.args.words.now 1) (argument c.args.words.now 2) c.in-Err.error
    (ap (λ (m : Memory). vector m (argument c.args.words.now 1) (argument c.args.words.now 2)) memory ∙ sym c.read.ensures ∙ c.in-Err.is) c.from.ensures c.wrong_count.ensures (omega arith))
