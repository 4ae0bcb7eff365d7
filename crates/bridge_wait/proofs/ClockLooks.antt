-- What native calls tell of the clocks.
use Rattle.std.proofs.Common.{◌≡◌, ℕ, ◌+◌, ◌*◌, ◌-◌, ◌/◌, ◌%◌, ◌^◌, ◌<◌, Bool, true, false, List, [], ◌∷◌, replicate, Option, Some, None, Ok, Err, refl, sym, ap, subst, ◌∙◌, arith, if◌then◌else◌}
use Rattle.std.specs.Prelude.{min, nat_lt, nat_le, pos, option_map, Result}
use Rattle.std.proofs.lemmas.Bool.Decides.{nat_tests}
use Rattle.host_mem.specs.Memory.{written}
use Rattle.kernel_core.specs.declared.error.Errno.{Errno}
use Rattle.kernel_core.specs.declared.error.Errno.TheVariants.{EINVAL, EOVERFLOW}
use Rattle.kernel_core.specs.declared.reply.Reply.{Reply}
use Rattle.kernel_core.specs.declared.reply.Reply.TheVariants as replies
use Rattle.kernel_model.specs.Came.{Given, done, refused_if, told_as, told_zero, waits, with_some}
use Rattle.kernel_model.specs.Clock.{clock_time, real_time, read_clock, resolution, sleep, sleep_end}
use Rattle.kernel_model.specs.State.{Kernel}
use Rattle.kernel_model.specs.declared.time.TimeSpec.{TimeSpec}
use Rattle.native_calls.specs.Clocks as native
use Rattle.native_calls.specs.Step as native_step
use Rattle.native_calls.specs.Table.{native_call}
use Rattle.native_calls.specs.Times.{time_at, time_bytes}
use Rattle.o32_model.specs.Clocks.{is_late}
use Rattle.bridge_wait.specs.declared.clock_times.ClockTime.{ClockTime}
use Rattle.bridge_log.specs.Looks.{IsLook}
use Rattle.bridge_wait.specs.inside.Shown.{clock_of, is_cpu_clock, is_over, is_real_clock, resolution_of, shown_of, time_in, time_of}

-- A time at the beginning of host memory, by what there is to show

abbrev pub time_reply : Option ℕ → Reply
time_reply None = native_step.failure EINVAL
time_reply (Some time) = native_step.value 0

abbrev pub time_room : Option ℕ → List ℕ
time_room None = replicate 16 0
time_room (Some time) = written (replicate 16 0) 65536 (time_bytes time)

stores_look : (kernel : Kernel) (left : List ℕ) (there : Option ℕ)
    → IsLook kernel (time_reply there) (time_room there) left (native_step.stores (replicate 16 0) 65536 (told_as time_bytes (with_some kernel EINVAL there (λ time. done kernel time))) left)
stores_look kernel left None = record { kernel_stays = refl; left_stays = refl; sends = refl; replied = refl; stored = refl }
stores_look kernel left (Some time) = record { kernel_stays = refl; left_stays = refl; sends = refl; replied = refl; stored = refl }

pub clock_look : (kernel : Kernel) (left : List ℕ) (first clock : ℕ) → first ≡ clock → clock < 2 ^ 32
    → IsLook kernel (time_reply (clock_time kernel kernel.clock clock)) (time_room (clock_time kernel kernel.clock clock)) left (native_call 113 (first ∷ 65536 ∷ 0 ∷ 0 ∷ 0 ∷ 0 ∷ []) kernel (replicate 16 0) left)
unfolding native.clock_gettime_row read_clock
clock_look kernel left first clock same word =
    let is : first % 2 ^ 32 ≡ clock = omega arith in
    subst (λ (n : ℕ). IsLook kernel (time_reply (clock_time kernel kernel.clock n)) (time_room (clock_time kernel kernel.clock n)) left (native_call 113 (first ∷ 65536 ∷ 0 ∷ 0 ∷ 0 ∷ 0 ∷ []) kernel (replicate 16 0) left)) is
    (stores_look kernel left (clock_time kernel kernel.clock (first % 2 ^ 32)))

resolution_look_of : (kernel : Kernel) (left : List ℕ) (none : Bool)
    → IsLook kernel (time_reply (if none then None else Some 1)) (time_room (if none then None else Some 1)) left (native_step.stores_unless_null (replicate 16 0) 65536 (told_as time_bytes (refused_if none EINVAL kernel (done kernel 1))) left)
resolution_look_of kernel left true = record { kernel_stays = refl; left_stays = refl; sends = refl; replied = refl; stored = refl }
resolution_look_of kernel left false = record { kernel_stays = refl; left_stays = refl; sends = refl; replied = refl; stored = refl }

pub resolution_look : (kernel : Kernel) (left : List ℕ) (first clock : ℕ) → first ≡ clock → clock < 2 ^ 32
    → IsLook kernel (time_reply (resolution_of clock)) (time_room (resolution_of clock)) left (native_call 114 (first ∷ 65536 ∷ 0 ∷ 0 ∷ 0 ∷ 0 ∷ []) kernel (replicate 16 0) left)
unfolding native.clock_getres_row resolution
resolution_look kernel left first clock same word =
    let is : first % 2 ^ 32 ≡ clock = omega arith in
    subst (λ (n : ℕ). IsLook kernel (time_reply (resolution_of n)) (time_room (resolution_of n)) left (native_call 114 (first ∷ 65536 ∷ 0 ∷ 0 ∷ 0 ∷ 0 ∷ []) kernel (replicate 16 0) left)) is
    (resolution_look_of kernel left (nat_lt 7 (first % 2 ^ 32)))

-- what host memory then tells

abbrev low_sum : ℕ → ℕ
low_sum number = number % 256 + 256 * (number / 256 % 256 + 256 * (number / 65536 % 256 + 256 * (number / 16777216 % 256 + 256 * 0)))

low_word : (number : ℕ) → low_sum number ≡ number % 4294967296
low_word number = omega arith

part_fits : (time : ℕ) → time % 1000000000 % 4294967296 ≡ time % 1000000000
part_fits time = omega arith

abbrev told : ℕ → ℕ → Option ClockTime
told seconds nanoseconds = Some (record { seconds = seconds; nanoseconds = nanoseconds })

some_time : (time : ℕ) → time_in (time_room (Some time)) (native_step.value 0) ≡ Some (time_of time)
some_time time =
    ap (λ (n : ℕ). told n (low_sum (time % 1000000000))) (low_word (time / 1000000000))
    ∙ ap (told (time / 1000000000 % 4294967296)) (low_word (time % 1000000000) ∙ part_fits time)

pub time_told : (there : Option ℕ) → time_in (time_room there) (time_reply there) ≡ option_map time_of there
time_told None = refl
time_told (Some time) = some_time time

-- Whether second 2^31 has come

abbrev pub late_time : TimeSpec
late_time = record { seconds = pos 2147483648; nanoseconds = pos 0 }

abbrev pub sleep_clock : Bool → ℕ
sleep_clock real = if real then 0 else 1

abbrev pub late_until : Kernel → Bool → ℕ
late_until kernel real = sleep_end kernel (sleep_clock real) true 2147483648000000000

abbrev pub late_reply_of : ℕ → Bool → Reply
late_reply_of until past = if past then native_step.value 0 else replies.Sleep (record { done = 0; until = Some until })

abbrev pub late_reply : Kernel → Bool → Reply
late_reply kernel real = late_reply_of (late_until kernel real) (nat_le (late_until kernel real) kernel.clock)

late_look_of : (kernel : Kernel) (memory left : List ℕ) (until : ℕ) (past : Bool)
    → IsLook kernel (late_reply_of until past) memory left (native_step.gives memory (told_zero (if past then done kernel tt else waits kernel (Some until))) left)
late_look_of kernel memory left until true = record { kernel_stays = refl; left_stays = refl; sends = refl; replied = refl; stored = refl }
late_look_of kernel memory left until false = record { kernel_stays = refl; left_stays = refl; sends = refl; replied = refl; stored = refl }

sleep_look : (kernel : Kernel) (memory left : List ℕ) (real : Bool)
    → IsLook kernel (late_reply kernel real) memory left (native_step.gives memory (told_zero (sleep kernel (sleep_clock real) (Some true) (Ok late_time))) left)
unfolding sleep
sleep_look kernel memory left true = late_look_of kernel memory left (late_until kernel true) (nat_le (late_until kernel true) kernel.clock)
sleep_look kernel memory left false = late_look_of kernel memory left (late_until kernel false) (nat_le (late_until kernel false) kernel.clock)

clock_word : (real : Bool) → sleep_clock real % 2 ^ 32 ≡ sleep_clock real
clock_word true = refl
clock_word false = refl

pub late_look : (kernel : Kernel) (memory left : List ℕ) (first place : ℕ) (real : Bool) → first ≡ sleep_clock real → time_at memory place ≡ Ok late_time
    → IsLook kernel (late_reply kernel real) memory left (native_call 115 (first ∷ 1 ∷ place ∷ 0 ∷ 0 ∷ 0 ∷ []) kernel memory left)
unfolding native.clock_nanosleep_row
late_look kernel memory left first place real same there =
    let is : first % 2 ^ 32 ≡ sleep_clock real = ap (λ (n : ℕ). n % 2 ^ 32) same ∙ clock_word real in
    subst (λ (n : ℕ). IsLook kernel (late_reply kernel real) memory left (native_step.gives memory (told_zero (sleep kernel n (Some true) (time_at memory place))) left)) (sym is)
    (subst (λ (t : Given TimeSpec). IsLook kernel (late_reply kernel real) memory left (native_step.gives memory (told_zero (sleep kernel (sleep_clock real) (Some true) t)) left)) (sym there)
    (sleep_look kernel memory left real))

over : (until : ℕ) (past : Bool) → is_over (late_reply_of until past) ≡ past
over until true = refl
over until false = refl

real_come : (epoch clock : ℕ) → nat_le (min (2147483648000000000 - epoch) 9223372036854775807) clock ≡ nat_lt 2147483647 ((epoch + clock) / 1000000000)
real_come epoch clock = grind (arith, nat_tests)

boot_come : (clock : ℕ) → nat_le 2147483648000000000 clock ≡ nat_lt 2147483647 (clock / 1000000000)
boot_come clock = grind (arith, nat_tests)

pub late_told : (kernel : Kernel) (real : Bool) → is_over (late_reply kernel real) ≡ is_late (clock_of kernel real)
late_told kernel true = over (late_until kernel true) _ ∙ real_come kernel.epoch kernel.clock
late_told kernel false = over (late_until kernel false) _ ∙ boot_come kernel.clock

-- What is shown of a clock

some_is : {A : Type 0} {a b : A} → Some a ≡ Some b → a ≡ b
some_is same = cc

abbrev pub late_or : ℕ → ClockTime → Result ClockTime Errno
late_or shown time = if is_late shown then Err EOVERFLOW else Ok time

shown_by : (real_at quanta clock : ℕ) (real cpu low : Bool) (time : ClockTime) → cpu ≡ false
    → option_map time_of (if real then Some real_at else (if cpu then Some clock else (if low then Some clock else None))) ≡ Some time
    → late_or (if real then real_at else clock) time ≡ shown_of (if real then Some real_at else (if cpu then Some quanta else (if low then Some clock else None)))
shown_by real_at quanta clock true cpu low time not there = sym (ap (late_or real_at) (some_is there))
shown_by real_at quanta clock false true low time not there = absurd cc
shown_by real_at quanta clock false false true time not there = sym (ap (late_or clock) (some_is there))
shown_by real_at quanta clock false false false time not there = absurd cc

pub shown_some : (kernel : Kernel) (quanta clock : ℕ) (time : ClockTime) → is_cpu_clock clock ≡ false → option_map time_of (clock_time kernel kernel.clock clock) ≡ Some time
    → late_or (clock_of kernel (is_real_clock clock)) time ≡ shown_of (clock_time kernel quanta clock)
shown_some kernel quanta clock time not there = shown_by (real_time kernel) quanta kernel.clock (is_real_clock clock) (is_cpu_clock clock) (nat_le clock 7) time not there
