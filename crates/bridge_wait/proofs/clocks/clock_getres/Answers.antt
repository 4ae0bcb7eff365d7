-- What was shown is stored as the row says.
use Rattle.std.proofs.Common.{◌∙◌, Option, ap, sym}
use Rattle.guest_space.specs.Memory.{Memory}
use Rattle.o32_model.specs.Clocks.{clock_getres_row}
use Rattle.bridge_wait.proofs.ClockRows.{getres_ended}
use Rattle.bridge_wait.proofs.Unmoving.{ended_called, ended_keeps}
use Rattle.bridge_wait.specs.declared.clock_times.ClockTime.{ClockTime}
use Rattle.bridge_log.specs.Storing.{ended}
use Rattle.bridge_wait.specs.inside.Endings.{resolution_ending}
use Rattle.bridge_wait.proofs.clocks.clock_getres.Goals as goal

pub returns-clause-row : goal.returns-clause-row
returns-clause-row g c = λ guest memory left told.
    let seen = c.in_ok-shown.ensures.looks left told in
    ended_called guest c.in_ok-outcome.outcome c.store_resolution.new.space (resolution_ending guest.memory c.args.address c.in_ok-shown.shown) (clock_getres_row c.args.below.now.kernel.now guest c.args.clock c.args.address left) seen.1 told
    (getres_ended c.args.below.now.kernel.now guest c.args.clock c.args.address left ∙ ap (λ (s : Option ClockTime). ended c.args.below.now.kernel.now guest.processor left (resolution_ending guest.memory c.args.address s)) (sym seen.0))
    (ap (λ (m : Memory). resolution_ending m c.args.address c.in_ok-shown.shown) memory ∙ c.in_ok-outcome.ensures.ends)

pub returns-clause-kept : goal.returns-clause-kept
returns-clause-kept g c = λ guest memory left told.
    let seen = c.in_ok-shown.ensures.looks left told in
    ended_keeps guest c.in_ok-outcome.outcome c.args.space.now c.store_resolution.new.space (resolution_ending guest.memory c.args.address c.in_ok-shown.shown) (clock_getres_row c.args.below.now.kernel.now guest c.args.clock c.args.address left) c.store_resolution.new.log seen.1 memory
    (getres_ended c.args.below.now.kernel.now guest c.args.clock c.args.address left ∙ ap (λ (s : Option ClockTime). ended c.args.below.now.kernel.now guest.processor left (resolution_ending guest.memory c.args.address s)) (sym seen.0))
    (ap (λ (m : Memory). resolution_ending m c.args.address c.in_ok-shown.shown) memory ∙ c.in_ok-outcome.ensures.ends)
    c.store_resolution.ensures.native c.in_ok-outcome.ensures.effects
