-- Refused rows on time.
use Rattle.kernel_model.proofs.refusals.Checks.{choice_stays, stays, waits_stays}
use Rattle.kernel_model.specs.Came.{Did, Given}
use Rattle.kernel_model.specs.Clock.{TimerSetting, alarm, arm_timer, read_clock, read_timer, resolution, sleep, waits_until}
use Rattle.kernel_model.specs.Laws.{StaysUnlessDone}
use Rattle.kernel_model.specs.State.{Kernel}
use Rattle.kernel_model.specs.declared.time.TimeSpec.{TimeSpec}
use Rattle.std.specs.Prelude.{Bool, None, Option, Some, nat_le, ℕ}

pub until_stays : {V : Type 0} (kernel : Kernel) (until : Option ℕ) (ended : Did Kernel V) → StaysUnlessDone kernel ended
    → StaysUnlessDone kernel (waits_until kernel until ended)
until_stays kernel None ended h = waits_stays kernel None
until_stays kernel (Some until) ended h = choice_stays kernel (nat_le until kernel.clock) _ _ h (waits_stays kernel (Some until))

pub read_clock_stays : (kernel : Kernel) (quanta : ℕ) (id : ℕ) → StaysUnlessDone kernel (read_clock kernel quanta id)
unfolding read_clock
read_clock_stays kernel quanta id = search stays depth 14

pub resolution_stays : (kernel : Kernel) (id : ℕ) → StaysUnlessDone kernel (resolution kernel id)
unfolding resolution
resolution_stays kernel id = search stays depth 14

pub sleep_stays : (kernel : Kernel) (id : ℕ) (absolute : Option Bool) (time : Given TimeSpec) → StaysUnlessDone kernel (sleep kernel id absolute time)
unfolding sleep
sleep_stays kernel id absolute time = search (stays, until_stays) depth 14

pub arm_timer_stays : (kernel : Kernel) (which : ℕ) (setting : Option (Given TimerSetting)) → StaysUnlessDone kernel (arm_timer kernel which setting)
unfolding arm_timer
arm_timer_stays kernel which None = search stays
arm_timer_stays kernel which (Some setting) = search stays

pub read_timer_stays : (kernel : Kernel) (which : ℕ) → StaysUnlessDone kernel (read_timer kernel which)
unfolding read_timer
read_timer_stays kernel which = search stays depth 14

pub alarm_stays : (kernel : Kernel) (seconds : ℕ) → StaysUnlessDone kernel (alarm kernel seconds)
unfolding alarm
alarm_stays kernel seconds = search stays depth 14
