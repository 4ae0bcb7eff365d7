-- What is shown of the timer, and what the timer is set to. (The form is this project's own.)
use Rattle.std.specs.Prelude.{◌≡◌, ℕ, ◌+◌, ◌/◌, ◌%◌, ◌^◌, ◌==◌, pos, negsuc, List, ◌++◌, Option, Some, None, option_map, unwrap_or, if◌then◌else◌}
use Rattle.byteorder.specs.Endian.{big_bytes, little_number}
use Rattle.host_mem.specs.Memory.{bytes_at, first_address}
use Rattle.kernel_core.specs.declared.reply.Reply.{Reply}
use Rattle.kernel_core.specs.declared.reply.Reply.TheVariants as replies
use Rattle.kernel_model.specs.Came.{Given}
use Rattle.kernel_model.specs.Clock.{TimerSetting, arm_timer, in_microseconds, second, timer_value}
use Rattle.kernel_model.specs.State.{Kernel}
use Rattle.kernel_model.specs.declared.time.TimerValue.{TimerValue}
use Rattle.native_calls.specs.Step.{reply_to, value}
use Rattle.bridge_timer.specs.declared.shown.MicroTime.{MicroTime}
use Rattle.bridge_timer.specs.declared.shown.Shown.{Shown}

-- a time in nanoseconds, rounded down, of whose seconds the low 32 bits are shown
abbrev pub time_of : ℕ → MicroTime
time_of time = record { seconds = time / second % 2 ^ 32; microseconds = in_microseconds time % 1_000_000 }

abbrev pub shown_of : TimerValue → Shown
shown_of timer = record { period = time_of timer.period; left = time_of timer.left }

-- what the timer with a number shows; only the timer 0 is there
abbrev pub shown_at : Kernel → ℕ → Option Shown
shown_at kernel which = if which == 0 then Some (shown_of (timer_value kernel)) else None

-- its bytes in the program's memory

abbrev pub time_bytes : MicroTime → List ℕ
time_bytes time = big_bytes 4 time.seconds ++ big_bytes 4 time.microseconds

abbrev pub shown_bytes : Shown → List ℕ
shown_bytes shown = time_bytes shown.period ++ time_bytes shown.left

-- What a native call tells that puts the timer at the beginning of host memory: of each number of 64 bits the low 32. Nothing after an error.

abbrev pub word_in : List ℕ → ℕ → ℕ
word_in memory place = unwrap_or (option_map (little_number 4) (bytes_at memory (first_address + place) 4)) 0

abbrev pub time_in : List ℕ → ℕ → MicroTime
time_in memory place = record { seconds = word_in memory place; microseconds = word_in memory (place + 8) }

abbrev pub shown_in : List ℕ → Reply → Option Shown
shown_in memory (replies.Done (pos number)) = Some (record { period = time_in memory 0; left = time_in memory 16 })
shown_in memory (replies.Done (negsuc number)) = None
shown_in memory (replies.Sleep wake) = None

-- the timer was set to this, or was not, by this reply
abbrev pub IsSet : Kernel → Option (Given TimerSetting) → Reply → Kernel → Type 0
IsSet kernel setting reply became =
    (reply ≡ reply_to (λ _. value 0) (arm_timer kernel 0 setting).came) × (became ≡ (arm_timer kernel 0 setting).state)
