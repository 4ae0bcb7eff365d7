-- What was shown is stored as the row says.
use Rattle.std.proofs.Common.{◌∙◌, Option, ap, sym}
use Rattle.guest_space.specs.Memory.{Memory}
use Rattle.o32_model.specs.Sleeps.{getitimer_row}
use Rattle.bridge_timer.proofs.Acting.{ended_called, ended_keeps, unmoved_moves}
use Rattle.bridge_timer.proofs.TimerRows.{getitimer_ended}
use Rattle.bridge_timer.specs.declared.shown.Shown.{Shown}
use Rattle.bridge_log.specs.Storing.{ended}
use Rattle.bridge_timer.specs.inside.Endings.{shown_ending}
use Rattle.bridge_timer.proofs.intervals.getitimer.Goals as goal

pub returns-clause-row : goal.returns-clause-row
returns-clause-row g c = λ guest memory left told.
    let seen = c.in_ok-shown.ensures.looks left told in
    ended_called c.args.below.now.kernel.now guest c.in_ok-outcome.outcome c.store_there.new.space (shown_ending guest.memory c.args.address c.in_ok-shown.shown) (getitimer_row c.args.below.now.kernel.now guest c.args.which c.args.address left) (unmoved_moves seen.1) told seen.1.same
    (getitimer_ended c.args.below.now.kernel.now guest c.args.which c.args.address left ∙ ap (λ (s : Option Shown). ended c.args.below.now.kernel.now guest.processor left (shown_ending guest.memory c.args.address s)) (sym seen.0))
    (ap (λ (m : Memory). shown_ending m c.args.address c.in_ok-shown.shown) memory ∙ c.in_ok-outcome.ensures.ends)

pub returns-clause-kept : goal.returns-clause-kept
returns-clause-kept g c = λ guest memory left told.
    let seen = c.in_ok-shown.ensures.looks left told in
    ended_keeps c.args.below.now.kernel.now guest c.in_ok-outcome.outcome c.args.space.now c.store_there.new.space (shown_ending guest.memory c.args.address c.in_ok-shown.shown) (getitimer_row c.args.below.now.kernel.now guest c.args.which c.args.address left) c.store_there.new.log (unmoved_moves seen.1) seen.1.same memory
    (getitimer_ended c.args.below.now.kernel.now guest c.args.which c.args.address left ∙ ap (λ (s : Option Shown). ended c.args.below.now.kernel.now guest.processor left (shown_ending guest.memory c.args.address s)) (sym seen.0))
    (ap (λ (m : Memory). shown_ending m c.args.address c.in_ok-shown.shown) memory ∙ c.in_ok-outcome.ensures.ends)
    c.store_there.ensures.native c.in_ok-outcome.ensures.effects
