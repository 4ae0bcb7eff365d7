-- The time's error, or a call with limits
use Rattle.std.proofs.Common.{◌∙◌, ap, subst}
use Rattle.std.specs.Prelude.{OnOk, Some}
use Rattle.guest_space.specs.Memory.{Memory}
use Rattle.o32_model.specs.Answered.{Answers}
use Rattle.o32_model.specs.Polling.{ppoll_row}
use Rattle.o32_model.specs.Step.{O32Step, failure}
use Rattle.o32_model.specs.Words.{argument}
use Rattle.outside.specs.Streams.{contents}
use Rattle.bridge_limits.proofs.Endings.{ends_called, ends_quietly}
use Rattle.bridge_limits.proofs.LimitedRows.{step_of}
use Rattle.bridge_limits.specs.Passed.{Keeps}
use Rattle.bridge_limits.proofs.Moving.{moves_none}
use Rattle.bridge_poll.proofs.Calls.{ppoll_limited, ppoll_refused}
use Rattle.bridge_poll.proofs.call.ppoll_sized.Goals as goal

pub returns-in-Err-clause-row : goal.returns-in-Err-clause-row
returns-in-Err-clause-row g c = λ guest called same left told.
    let words = c.args.words.now in
    let kernel = c.args.below.now.kernel.now in
    let row = ppoll_row kernel guest (argument words 0) (argument words 1) (argument words 2) (argument words 3) (Some c.args.size) left in
    ends_called guest (failure c.in-Err.error) c.args.space.now row (moves_none kernel (contents g.I.Source.left g.O.Sink.written g.E.Sink.written c.args.dev.now) left c.args.below.now.log.now) told
    (ppoll_refused kernel guest c.args.space.now (argument words 0) (argument words 1) (argument words 2) (argument words 3) c.args.size c.in-Err.error left same c.in-Err.ensures
    ∙ ap (λ (m : Memory). step_of kernel guest left m (failure c.in-Err.error)) same)

pub returns-in-Err-clause-kept : goal.returns-in-Err-clause-kept
returns-in-Err-clause-kept g c = λ guest called same left told.
    let words = c.args.words.now in
    let kernel = c.args.below.now.kernel.now in
    let row = ppoll_row kernel guest (argument words 0) (argument words 1) (argument words 2) (argument words 3) (Some c.args.size) left in
    ends_quietly guest (failure c.in-Err.error) row (moves_none kernel (contents g.I.Source.left g.O.Sink.written g.E.Sink.written c.args.dev.now) left c.args.below.now.log.now)
    (ppoll_refused kernel guest c.args.space.now (argument words 0) (argument words 1) (argument words 2) (argument words 3) c.args.size c.in-Err.error left same c.in-Err.ensures)

pub returns-in-Ok-clause-row : goal.returns-in-Ok-clause-row
returns-in-Ok-clause-row g c = λ guest called same left told.
    let words = c.args.words.now in
    subst (λ (s : O32Step). Answers s c.limited.result c.limited.new.below.kernel.now c.limited.new.space guest.processor (contents g.I.Source.left g.O.Sink.written g.E.Sink.written c.args.dev.now) (contents g.I.Source.left g.O.Sink.written g.E.Sink.written c.limited.new.dev))
    (ppoll_limited c.args.below.now.kernel.now guest c.args.space.now (argument words 0) (argument words 1) (argument words 2) (argument words 3) c.args.size c.in-Ok.wait c.mask_at.result left same c.in-Ok.ensures c.mask_at.ensures)
    (c.limited.ensures.row guest called same left told)

pub returns-in-Ok-clause-kept : goal.returns-in-Ok-clause-kept
returns-in-Ok-clause-kept g c = λ guest called same left told.
    let words = c.args.words.now in
    subst (λ (s : O32Step). OnOk c.limited.result (Keeps s c.args.below.now.kernel.now left guest c.args.below.now.log.now c.limited.new.below.log.now))
    (ppoll_limited c.args.below.now.kernel.now guest c.args.space.now (argument words 0) (argument words 1) (argument words 2) (argument words 3) c.args.size c.in-Ok.wait c.mask_at.result left same c.in-Ok.ensures c.mask_at.ensures)
    (c.limited.ensures.kept guest called same left told)
