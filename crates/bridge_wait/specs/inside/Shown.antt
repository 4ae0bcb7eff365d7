-- What is shown of a clock: seconds and nanoseconds of 32 bits each. (The form is this project's own.)
use Rattle.std.specs.Prelude.{ℕ, ◌+◌, ◌/◌, ◌%◌, ◌^◌, ◌==◌, Bool, true, false, pos, negsuc, List, ◌++◌, Option, Some, None, option_map, unwrap_or, Result, Ok, Err, nat_lt, ◌||◌, if◌then◌else◌}
use Rattle.byteorder.specs.Endian.{big_bytes, little_number}
use Rattle.host_mem.specs.Memory.{bytes_at, first_address}
use Rattle.kernel_core.specs.declared.error.Errno.TheVariants.{EINVAL, EOVERFLOW}
use Rattle.kernel_core.specs.declared.reply.Reply.{Reply}
use Rattle.kernel_core.specs.declared.reply.Reply.TheVariants as replies
use Rattle.kernel_model.specs.Clock.{real_time, second}
use Rattle.kernel_model.specs.Shared.{Errno}
use Rattle.kernel_model.specs.State.{Kernel}
use Rattle.o32_model.specs.Clocks.{is_late}
use Rattle.bridge_wait.specs.declared.clock_times.ClockTime.{ClockTime}

-- a time in nanoseconds, of whose seconds the low 32 bits are shown
abbrev pub time_of : ℕ → ClockTime
time_of time = record { seconds = time / second % 2 ^ 32; nanoseconds = time % second }

-- its bytes in the program's memory, with nanoseconds or with microseconds, rounded down

abbrev pub spec_bytes : ClockTime → List ℕ
spec_bytes time = big_bytes 4 time.seconds ++ big_bytes 4 time.nanoseconds

abbrev pub val_bytes : ClockTime → List ℕ
val_bytes time = big_bytes 4 time.seconds ++ big_bytes 4 (time.nanoseconds / 1000)

-- what a clock shows the program, by what there is to show
abbrev pub shown_of : Option ℕ → Result ClockTime Errno
shown_of None = Err EINVAL
shown_of (Some time) = if is_late time then Err EOVERFLOW else Ok (time_of time)

-- a clock of CPU time, and one of real time (Linux include/uapi/linux/time.h)

abbrev pub is_cpu_clock : ℕ → Bool
is_cpu_clock clock = (clock == 2) || (clock == 3)

abbrev pub is_real_clock : ℕ → Bool
is_real_clock clock = (clock == 0) || (clock == 5)

-- the time of CLOCK_REALTIME, or of CLOCK_MONOTONIC
abbrev pub clock_of : Kernel → Bool → ℕ
clock_of kernel real = if real then real_time kernel else kernel.clock

-- the resolution of a clock, where there is such a clock
abbrev pub resolution_of : ℕ → Option ℕ
resolution_of clock = if nat_lt 7 clock then None else Some 1

-- What a native call tells that puts a time at the beginning of host memory: of each number of 64 bits the low 32. Nothing after an error.

abbrev pub word_in : List ℕ → ℕ → ℕ
word_in memory place = unwrap_or (option_map (little_number 4) (bytes_at memory (first_address + place) 4)) 0

abbrev pub time_in : List ℕ → Reply → Option ClockTime
time_in memory (replies.Done (pos number)) = Some (record { seconds = word_in memory 0; nanoseconds = word_in memory 8 })
time_in memory (replies.Done (negsuc number)) = None
time_in memory (replies.Sleep wake) = None

-- whether a sleep has ended
abbrev pub is_over : Reply → Bool
is_over (replies.Done number) = true
is_over (replies.Sleep wake) = false
