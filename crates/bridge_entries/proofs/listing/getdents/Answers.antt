-- The answer's records go to the program's buffer.
use Rattle.std.proofs.Common.{ap, ◌∙◌}
use Rattle.kernel_model.specs.Pipes.{nothing}
use Rattle.o32_model.specs.Entries.{entry_form, getdents_row}
use Rattle.o32_model.specs.GuestBytes.{with_stored}
use Rattle.o32_model.specs.Words.{argument}
use Rattle.bridge_entries.proofs.NarrowCalls.{narrow_called, narrow_keeps}
use Rattle.bridge_entries.proofs.Quietly.{silent_stop}
use Rattle.bridge_entries.proofs.WideCalls.{answers_err}
use Rattle.bridge_entries.proofs.listing.getdents.Goals as goal

pub returns-in_err-answer-clause-row : goal.returns-in_err-answer-clause-row
returns-in_err-answer-clause-row g c = λ guest same memory left told.
    answers_err (getdents_row entry_form c.args.below.now.kernel.now guest (argument c.args.words.now 0) (argument c.args.words.now 1) (argument c.args.words.now 2) left) c.from_residual.result _ _ _ _ _ c.from_residual.ensures.0
    (silent_stop (getdents_row entry_form c.args.below.now.kernel.now guest (argument c.args.words.now 0) (argument c.args.words.now 1) (argument c.args.words.now 2) left) _ _ (c.in_err-answer.ensures.goes left told))

pub returns-in_err-put_some-clause-row : goal.returns-in_err-put_some-clause-row
returns-in_err-put_some-clause-row g c = λ guest same memory left told.
    answers_err (getdents_row entry_form c.args.below.now.kernel.now guest (argument c.args.words.now 0) (argument c.args.words.now 1) (argument c.args.words.now 2) left) c.from_residual-in_err-put_some.result _ _ _ _ _ c.from_residual-in_err-put_some.ensures.0
    (silent_stop (getdents_row entry_form c.args.below.now.kernel.now guest (argument c.args.words.now 0) (argument c.args.words.now 1) (argument c.args.words.now 2) left) _ _ (c.in_ok-answer.ensures.goes left told).1.rest)

pub returns-clause-row : goal.returns-clause-row
returns-clause-row g c = λ guest same memory left told.
    let seen = c.in_ok-answer.ensures.goes left told in
    narrow_called guest c.args.below.now.kernel.now (argument c.args.words.now 0) (argument c.args.words.now 1) (argument c.args.words.now 2) c.writable-room.result c.args.space.now c.put_some.new.space memory c.writable-room.ensures.value c.writable-room.ensures.free c.files_valid.ensures.nodes left
    c.in_ok-answer.answer c.args.words.now same seen.0 (c.in_ok-put_some.ensures.stored ∙ ap (with_stored c.args.space.now (argument c.args.words.now 1)) c.as_slice.ensures.value) seen.1 told

pub returns-clause-kept : goal.returns-clause-kept
returns-clause-kept g c = λ guest same memory left told.
    let seen = c.in_ok-answer.ensures.goes left told in
    narrow_keeps guest c.args.below.now.kernel.now (argument c.args.words.now 0) (argument c.args.words.now 1) (argument c.args.words.now 2) c.writable-room.result c.args.space.now c.put_some.new.space memory c.writable-room.ensures.value c.writable-room.ensures.free c.files_valid.ensures.nodes left
    c.in_ok-answer.answer c.args.words.now same seen.0 (c.in_ok-put_some.ensures.stored ∙ ap (with_stored c.args.space.now (argument c.args.words.now 1)) c.as_slice.ensures.value) seen.1
    c.put_some.new.log c.put_some.ensures.native (c.in_ok-put_some.ensures.effects guest.processor nothing)
