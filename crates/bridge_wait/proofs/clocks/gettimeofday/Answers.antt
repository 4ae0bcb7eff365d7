-- What was shown is stored as the row says.
use Rattle.std.proofs.Common.{◌∙◌, Result, ap, sym}
use Rattle.guest_space.specs.Memory.{Memory}
use Rattle.kernel_core.specs.declared.error.Errno.{Errno}
use Rattle.o32_model.specs.Clocks.{gettimeofday_row}
use Rattle.bridge_wait.proofs.ClockRows.{day_ended}
use Rattle.bridge_wait.proofs.Unmoving.{ended_called, ended_keeps}
use Rattle.bridge_wait.specs.declared.clock_times.ClockTime.{ClockTime}
use Rattle.bridge_log.specs.Storing.{ended}
use Rattle.bridge_wait.specs.inside.Endings.{day_ending}
use Rattle.bridge_wait.proofs.clocks.gettimeofday.Goals as goal

pub returns-clause-row : goal.returns-clause-row
returns-clause-row g c = λ guest memory left told.
    let seen = c.in_ok-shown.ensures.looks left told in
    ended_called guest c.in_ok-outcome.outcome c.store_day.new.space (day_ending guest.memory c.args.value c.args.zone c.in_ok-shown.shown) (gettimeofday_row c.args.below.now.kernel.now guest c.args.value c.args.zone left) seen.1 told
    (day_ended c.args.below.now.kernel.now guest c.args.value c.args.zone left ∙ ap (λ (s : Result ClockTime Errno). ended c.args.below.now.kernel.now guest.processor left (day_ending guest.memory c.args.value c.args.zone s)) (sym seen.0))
    (ap (λ (m : Memory). day_ending m c.args.value c.args.zone c.in_ok-shown.shown) memory ∙ c.in_ok-outcome.ensures.ends)

pub returns-clause-kept : goal.returns-clause-kept
returns-clause-kept g c = λ guest memory left told.
    let seen = c.in_ok-shown.ensures.looks left told in
    ended_keeps guest c.in_ok-outcome.outcome c.args.space.now c.store_day.new.space (day_ending guest.memory c.args.value c.args.zone c.in_ok-shown.shown) (gettimeofday_row c.args.below.now.kernel.now guest c.args.value c.args.zone left) c.store_day.new.log seen.1 memory
    (day_ended c.args.below.now.kernel.now guest c.args.value c.args.zone left ∙ ap (λ (s : Result ClockTime Errno). ended c.args.below.now.kernel.now guest.processor left (day_ending guest.memory c.args.value c.args.zone s)) (sym seen.0))
    (ap (λ (m : Memory). day_ending m c.args.value c.args.zone c.in_ok-shown.shown) memory ∙ c.in_ok-outcome.ensures.ends)
    c.store_day.ensures.native c.in_ok-outcome.ensures.effects
