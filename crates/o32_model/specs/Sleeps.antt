-- Sleeping, and the interval timer: nanosleep(2), clock_nanosleep(2), alarm(2), setitimer(2), getitimer(2).
use Rattle.std.specs.Prelude.{ℕ, ◌%◌, ◌^◌, Bool, false, List, [], ◌∷◌, drop, Option, Some}
use Rattle.guest_space.specs.Memory.{Memory}
use Rattle.kernel_model.specs.Came.{Given, told_as, told_zero}
use Rattle.kernel_model.specs.Clock.{TimerSetting, sleep, arm_timer, read_timer, alarm}
use Rattle.kernel_model.specs.State.{Kernel}
use Rattle.kernel_model.specs.declared.time.TimerValue.{TimerValue}
use Rattle.layouts.specs.O32.{time, itimerval}
use Rattle.layouts.specs.Shape.{record_bytes}
use Rattle.o32_calls.specs.Numbers.{time_number, timer_number}
use Rattle.o32_calls.specs.declared.times.TimeCall.TheVariants.{Nanosleep, ClockNanosleep}
use Rattle.o32_calls.specs.declared.times.TimerCall.TheVariants.{Alarm, Setitimer, Getitimer}
use Rattle.o32_model.specs.GuestBytes.{structure, read_as, unless_null}
use Rattle.o32_model.specs.PathArguments.{one_flag}
use Rattle.o32_model.specs.Small.{stores_unless_null}
use Rattle.o32_model.specs.Step.{Guest, O32Step, O32Row, gives, stores}
use Rattle.o32_model.specs.Times.{spec_at, val_in, seconds_field, microseconds_field}
use Rattle.o32_model.specs.Words.{argument}

-- Sleeping. What is left of the time is stored where a handler ends the sleep, and not here.

-- CLOCK_MONOTONIC, by which nanosleep(2) sleeps
abbrev pub monotonic : ℕ
monotonic = 1

-- TIMER_ABSTIME of clock_nanosleep(2)
abbrev pub absolute_flag : ℕ
absolute_flag = 1

abbrev pub slept : Kernel → Guest → ℕ → Option Bool → ℕ → List ℕ → O32Step
slept kernel guest clock absolute address left = gives guest (told_zero (sleep kernel clock absolute (spec_at guest.memory address))) left

unfoldable pub nanosleep_row : Kernel → Guest → ℕ → List ℕ → O32Step
nanosleep_row kernel guest address left = slept kernel guest monotonic (Some false) address left

unfoldable pub clock_nanosleep_row : Kernel → Guest → ℕ → ℕ → ℕ → List ℕ → O32Step
clock_nanosleep_row kernel guest clock flags address left = slept kernel guest clock (one_flag absolute_flag flags) address left

-- The interval timer

-- of more seconds than an unsigned int holds the low 32 bits (own): alarm(2) itself sets no such timer
unfoldable pub alarm_row : Kernel → Guest → ℕ → List ℕ → O32Step
alarm_row kernel guest seconds left = gives guest (told_as (λ before. before % 2 ^ 32) (alarm kernel seconds)) left

-- the period and then the value (struct itimerval of setitimer(2))
abbrev pub setting_in : List ℕ → TimerSetting
setting_in bytes = record { period = val_in bytes; value = val_in (drop time.size bytes) }

abbrev pub setting_at : Memory → ℕ → Option (Given TimerSetting)
setting_at memory address = unless_null address (read_as setting_in (structure memory address itimerval.size))

abbrev pub timer_bytes : TimerValue → List ℕ
timer_bytes timer =
    record_bytes itimerval
    (seconds_field timer.period ∷ microseconds_field timer.period ∷ seconds_field timer.left ∷ microseconds_field timer.left ∷ [])

unfoldable pub setitimer_row : Kernel → Guest → ℕ → ℕ → ℕ → List ℕ → O32Step
setitimer_row kernel guest which new old left =
    stores_unless_null guest old (told_as timer_bytes (arm_timer kernel which (setting_at guest.memory new))) left

unfoldable pub getitimer_row : Kernel → Guest → ℕ → ℕ → List ℕ → O32Step
getitimer_row kernel guest which address left = stores guest address (told_as timer_bytes (read_timer kernel which)) left

-- The numbers (Linux arch/mips/include/uapi/asm/unistd.h, the o32 table)
abbrev pub sleep_calls : List O32Row
sleep_calls =
    record { number = timer_number Alarm; step = λ kernel guest. alarm_row kernel guest (argument guest.words 0) }
    ∷ record { number = timer_number Setitimer; step = λ kernel guest. setitimer_row kernel guest (argument guest.words 0) (argument guest.words 1) (argument guest.words 2) }
    ∷ record { number = timer_number Getitimer; step = λ kernel guest. getitimer_row kernel guest (argument guest.words 0) (argument guest.words 1) }
    ∷ record { number = time_number Nanosleep; step = λ kernel guest. nanosleep_row kernel guest (argument guest.words 0) }
    ∷ record { number = time_number ClockNanosleep; step = λ kernel guest. clock_nanosleep_row kernel guest (argument guest.words 0) (argument guest.words 1) (argument guest.words 2) }
    ∷ []
