-- Another timer is refused, and that of real time is set by what it shows.
use Rattle.std.proofs.Common.{◌∙◌, ℕ, OnOk, ap, refl, subst, sym}
use Rattle.guest_space.specs.Memory.{Memory}
use Rattle.kernel_core.specs.declared.error.Errno.TheVariants.{EINVAL}
use Rattle.kernel_model.specs.Clock.{timer_value}
use Rattle.kernel_model.specs.State.{Kernel}
use Rattle.o32_model.specs.Answered.{Answers}
use Rattle.o32_model.specs.Sleeps.{setitimer_row}
use Rattle.o32_model.specs.Step.{failure}
use Rattle.o32_model.specs.Words.{argument}
use Rattle.outside.specs.Streams.{contents}
use Rattle.bridge_log.proofs.Journals.{effected_none}
use Rattle.bridge_log.proofs.Looking.{kept_then, row_then, still_told}
use Rattle.bridge_log.specs.Keeping.{Keeps, reached}
use Rattle.bridge_timer.proofs.Acting.{ended_called, ended_keeps, unmoved_moves}
use Rattle.bridge_timer.proofs.TimerRows.{not_there, setitimer_none, there_is}
use Rattle.bridge_log.specs.Storing.{ending}
use Rattle.bridge_timer.specs.inside.Shown.{shown_of}
use Rattle.bridge_timer.proofs.intervals.setitimer.Goals as goal

pub returns-in-None-clause-row : goal.returns-in-None-clause-row
returns-in-None-clause-row g c = λ guest words memory left told.
    let seen = c.in_ok-timer_shown.ensures.looks left told in
    ended_called c.args.below.now.kernel.now guest (failure EINVAL) c.args.space.now (ending (failure EINVAL) guest.memory) (setitimer_row c.args.below.now.kernel.now guest (argument c.args.words.now 0) (argument c.args.words.now 1) (argument c.args.words.now 2) left) (unmoved_moves seen.1) told seen.1.same
    (setitimer_none c.args.below.now.kernel.now guest (argument c.args.words.now 0) (argument c.args.words.now 1) (argument c.args.words.now 2) left (not_there c.args.below.now.kernel.now (argument c.args.words.now 0) (sym c.in-None.is ∙ seen.0)))
    (ap (λ (m : Memory). ending (failure EINVAL) m) memory)

pub returns-in-None-clause-kept : goal.returns-in-None-clause-kept
returns-in-None-clause-kept g c = λ guest words memory left told.
    let seen = c.in_ok-timer_shown.ensures.looks left told in
    ended_keeps c.args.below.now.kernel.now guest (failure EINVAL) c.args.space.now c.args.space.now (ending (failure EINVAL) guest.memory) (setitimer_row c.args.below.now.kernel.now guest (argument c.args.words.now 0) (argument c.args.words.now 1) (argument c.args.words.now 2) left) c.timer_shown.new.below.log.now (unmoved_moves seen.1) seen.1.same memory
    (setitimer_none c.args.below.now.kernel.now guest (argument c.args.words.now 0) (argument c.args.words.now 1) (argument c.args.words.now 2) left (not_there c.args.below.now.kernel.now (argument c.args.words.now 0) (sym c.in-None.is ∙ seen.0)))
    (ap (λ (m : Memory). ending (failure EINVAL) m) memory)
    refl (λ processor sent. effected_none _ (reached processor c.args.space.now.pages sent))

pub returns-in-Some-clause-row : goal.returns-in-Some-clause-row
returns-in-Some-clause-row g c = λ guest words memory left told.
    let seen = c.in_ok-timer_shown.ensures.looks left told in
    let there = there_is c.args.below.now.kernel.now (argument c.args.words.now 0) c.in-Some.shown (sym c.in-Some.is ∙ seen.0) in
    let before = contents g.I.Source.left g.O.Sink.written g.E.Sink.written c.args.dev.now in
    let between = contents g.I.Source.left g.O.Sink.written g.E.Sink.written c.timer_shown.new.dev in
    let after = contents g.I.Source.left g.O.Sink.written g.E.Sink.written c.exchange.new.dev in
    row_then (λ (k : Kernel). setitimer_row k guest (argument c.args.words.now 0) (argument c.args.words.now 1) (argument c.args.words.now 2) left) c.exchange.result c.args.below.now.kernel.now c.timer_shown.new.below.kernel.now c.exchange.new.below.kernel.now c.exchange.new.space guest.processor before between after seen.1
    (subst (λ (n : ℕ). Answers (setitimer_row c.timer_shown.new.below.kernel.now guest n (argument c.args.words.now 1) (argument c.args.words.now 2) left) c.exchange.result c.exchange.new.below.kernel.now c.exchange.new.space guest.processor between after) (sym there.0)
    (c.exchange.ensures.row guest words memory (there.1 ∙ ap (λ (k : Kernel). shown_of (timer_value k)) (sym seen.1.same)) left (still_told seen.1 told)))

pub returns-in-Some-clause-kept : goal.returns-in-Some-clause-kept
returns-in-Some-clause-kept g c = λ guest words memory left told.
    let seen = c.in_ok-timer_shown.ensures.looks left told in
    let there = there_is c.args.below.now.kernel.now (argument c.args.words.now 0) c.in-Some.shown (sym c.in-Some.is ∙ seen.0) in
    let before = contents g.I.Source.left g.O.Sink.written g.E.Sink.written c.args.dev.now in
    let between = contents g.I.Source.left g.O.Sink.written g.E.Sink.written c.timer_shown.new.dev in
    kept_then (λ (k : Kernel). setitimer_row k guest (argument c.args.words.now 0) (argument c.args.words.now 1) (argument c.args.words.now 2) left) c.exchange.result c.args.below.now.kernel.now c.timer_shown.new.below.kernel.now guest before between left c.args.below.now.log.now c.timer_shown.new.below.log.now c.exchange.new.below.log.now seen.1
    (subst (λ (n : ℕ). OnOk c.exchange.result (Keeps (setitimer_row c.timer_shown.new.below.kernel.now guest n (argument c.args.words.now 1) (argument c.args.words.now 2) left) c.timer_shown.new.below.kernel.now left guest c.timer_shown.new.below.log.now c.exchange.new.below.log.now)) (sym there.0)
    (c.exchange.ensures.kept guest words memory (there.1 ∙ ap (λ (k : Kernel). shown_of (timer_value k)) (sym seen.1.same)) left (still_told seen.1 told)))
