-- The calls on the clock: clock_gettime(2), clock_getres(2), nanosleep(2), clock_nanosleep(2), getitimer(2), setitimer(2).
use Rattle.std.specs.Prelude.{ℕ, false, ℤ, List, [], ◌∷◌, ◌++◌, drop, Some}
use Rattle.kernel_model.specs.Came.{Given, told_as, told_zero}
use Rattle.kernel_model.specs.Clock.{TimerSetting, read_clock, resolution, sleep, arm_timer, read_timer}
use Rattle.kernel_model.specs.State.{Kernel}
use Rattle.kernel_model.specs.declared.time.TimerValue.{TimerValue}
use Rattle.layouts.specs.Native.{itimerval}
use Rattle.layouts.specs.Shape.{record_bytes, record_values}
use Rattle.native_calls.specs.Arguments.{argument, word}
use Rattle.native_calls.specs.Flags.{only_flag}
use Rattle.native_calls.specs.HostBytes.{structure, read_as, unless_null}
use Rattle.native_calls.specs.Step.{NativeStep, NativeCall, gives, stores, stores_unless_null}
use Rattle.native_calls.specs.Times.{time_at, time_bytes, micro_time_of, micro_time_values}

-- Clocks. Which part of its time the clock was idle is not known here, so the clocks of the process and of the thread show the clock itself
-- (own).

unfoldable pub clock_gettime_row : Kernel → List ℕ → ℕ → ℕ → List ℕ → NativeStep
clock_gettime_row kernel memory id address left =
    stores memory address (told_as time_bytes (read_clock kernel kernel.clock id)) left

unfoldable pub clock_getres_row : Kernel → List ℕ → ℕ → ℕ → List ℕ → NativeStep
clock_getres_row kernel memory id address left =
    stores_unless_null memory address (told_as time_bytes (resolution kernel id)) left

-- Sleeping. A sleep that waits is not interrupted here, so no time left is ever stored.

-- CLOCK_MONOTONIC (Linux include/uapi/linux/time.h)
abbrev pub monotonic_clock : ℕ
monotonic_clock = 1

unfoldable pub nanosleep_row : Kernel → List ℕ → ℕ → List ℕ → NativeStep
nanosleep_row kernel memory time left =
    gives memory (told_zero (sleep kernel monotonic_clock (Some false) (time_at memory time))) left

-- TIMER_ABSTIME (Linux include/uapi/linux/time.h)
abbrev pub absolute_flag : ℕ
absolute_flag = 1

unfoldable pub clock_nanosleep_row : Kernel → List ℕ → ℕ → ℕ → ℕ → List ℕ → NativeStep
clock_nanosleep_row kernel memory id flags time left =
    gives memory (told_zero (sleep kernel id (only_flag absolute_flag flags) (time_at memory time))) left

-- The interval timer: its period and then its value

abbrev pub setting_of : List ℤ → TimerSetting
setting_of values = record { value = micro_time_of (drop 2 values); period = micro_time_of values }

abbrev pub setting_in : List ℕ → TimerSetting
setting_in bytes = setting_of (record_values itimerval bytes)

abbrev pub setting_at : List ℕ → ℕ → Given TimerSetting
setting_at memory address = read_as setting_in (structure memory address itimerval.size)

abbrev pub timer_bytes : TimerValue → List ℕ
timer_bytes timer = record_bytes itimerval (micro_time_values timer.period ++ micro_time_values timer.left)

unfoldable pub getitimer_row : Kernel → List ℕ → ℕ → ℕ → List ℕ → NativeStep
getitimer_row kernel memory which address left = stores memory address (told_as timer_bytes (read_timer kernel which)) left

unfoldable pub setitimer_row : Kernel → List ℕ → ℕ → ℕ → ℕ → List ℕ → NativeStep
setitimer_row kernel memory which setting old left =
    stores_unless_null memory old (told_as timer_bytes (arm_timer kernel which (unless_null setting (setting_at memory setting)))) left

-- The numbers (Linux include/uapi/asm-generic/unistd.h)
abbrev pub clock_calls : List NativeCall
clock_calls =
    record { number = 101; step = λ args kernel memory. nanosleep_row kernel memory (argument args 0) }
    ∷ record { number = 102; step = λ args kernel memory. getitimer_row kernel memory (word args 0) (argument args 1) }
    ∷ record { number = 103; step = λ args kernel memory. setitimer_row kernel memory (word args 0) (argument args 1) (argument args 2) }
    ∷ record { number = 113; step = λ args kernel memory. clock_gettime_row kernel memory (word args 0) (argument args 1) }
    ∷ record { number = 114; step = λ args kernel memory. clock_getres_row kernel memory (word args 0) (argument args 1) }
    ∷ record { number = 115; step = λ args kernel memory. clock_nanosleep_row kernel memory (word args 0) (word args 1) (argument args 2) }
    ∷ []
