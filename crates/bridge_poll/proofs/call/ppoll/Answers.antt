-- With the size of the mask, or without it
use Rattle.std.proofs.Common.{◌∙◌, ℕ, Option, ap, subst, sym}
use Rattle.std.specs.Prelude.{OnOk}
use Rattle.guest_space.specs.Memory.{Memory}
use Rattle.kernel_core.specs.declared.error.Errno.TheVariants.{EFAULT}
use Rattle.o32_model.specs.Answered.{Answers}
use Rattle.o32_model.specs.Polling.{ppoll_row}
use Rattle.o32_model.specs.Step.{failure}
use Rattle.o32_model.specs.Words.{argument, stack_word}
use Rattle.outside.specs.Streams.{contents}
use Rattle.bridge_limits.proofs.Endings.{ends_called, ends_quietly}
use Rattle.bridge_limits.proofs.LimitedRows.{step_of}
use Rattle.bridge_limits.specs.Passed.{Keeps}
use Rattle.bridge_limits.proofs.Moving.{moves_none}
use Rattle.bridge_poll.proofs.Calls.{ppoll_unsized}
use Rattle.bridge_poll.proofs.call.ppoll.Goals as goal

pub returns-in-None-clause-row : goal.returns-in-None-clause-row
returns-in-None-clause-row g c = λ guest called same left told.
    let words = c.args.words.now in
    let kernel = c.args.below.now.kernel.now in
    let row = ppoll_row kernel guest (argument words 0) (argument words 1) (argument words 2) (argument words 3) (stack_word words 0) left in
    ends_called guest (failure EFAULT) c.args.space.now row (moves_none kernel (contents g.I.Source.left g.O.Sink.written g.E.Sink.written c.args.dev.now) left c.args.below.now.log.now) told
    (ppoll_unsized kernel guest (argument words 0) (argument words 1) (argument words 2) (argument words 3) (stack_word words 0) left c.in-None.is
    ∙ ap (λ (m : Memory). step_of kernel guest left m (failure EFAULT)) same)

pub returns-in-None-clause-kept : goal.returns-in-None-clause-kept
returns-in-None-clause-kept g c = λ guest called same left told.
    let words = c.args.words.now in
    let kernel = c.args.below.now.kernel.now in
    let row = ppoll_row kernel guest (argument words 0) (argument words 1) (argument words 2) (argument words 3) (stack_word words 0) left in
    ends_quietly guest (failure EFAULT) row (moves_none kernel (contents g.I.Source.left g.O.Sink.written g.E.Sink.written c.args.dev.now) left c.args.below.now.log.now)
    (ppoll_unsized kernel guest (argument words 0) (argument words 1) (argument words 2) (argument words 3) (stack_word words 0) left c.in-None.is)

pub returns-in-Some-clause-row : goal.returns-in-Some-clause-row
returns-in-Some-clause-row g c = λ guest called same left told.
    let words = c.args.words.now in
    let row = λ (size : Option ℕ). ppoll_row c.args.below.now.kernel.now guest (argument words 0) (argument words 1) (argument words 2) (argument words 3) size left in
    subst (λ (size : Option ℕ). Answers (row size) c.ppoll_sized.result c.ppoll_sized.new.below.kernel.now c.ppoll_sized.new.space guest.processor (contents g.I.Source.left g.O.Sink.written g.E.Sink.written c.args.dev.now) (contents g.I.Source.left g.O.Sink.written g.E.Sink.written c.ppoll_sized.new.dev))
    (sym c.in-Some.is) (c.ppoll_sized.ensures.row guest called same left told)

pub returns-in-Some-clause-kept : goal.returns-in-Some-clause-kept
returns-in-Some-clause-kept g c = λ guest called same left told.
    let words = c.args.words.now in
    let row = λ (size : Option ℕ). ppoll_row c.args.below.now.kernel.now guest (argument words 0) (argument words 1) (argument words 2) (argument words 3) size left in
    subst (λ (size : Option ℕ). OnOk c.ppoll_sized.result (Keeps (row size) c.args.below.now.kernel.now left guest c.args.below.now.log.now c.ppoll_sized.new.below.log.now)) (sym c.in-Some.is) (c.ppoll_sized.ensures.kept guest called same left told)
