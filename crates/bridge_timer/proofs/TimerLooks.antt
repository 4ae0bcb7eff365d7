-- What a native call tells of the timer.
use Rattle.std.proofs.Common.{◌≡◌, ℕ, ◌+◌, ◌*◌, ◌/◌, ◌%◌, ◌^◌, ◌<◌, Bool, true, false, List, [], ◌∷◌, replicate, Option, Some, None, refl, subst, ◌∙◌, arith, if◌then◌else◌}
use Rattle.std.specs.Prelude.{◌==◌, not}
use Rattle.host_mem.specs.Memory.{written}
use Rattle.kernel_core.specs.declared.error.Errno.TheVariants.{EINVAL}
use Rattle.kernel_core.specs.declared.reply.Reply.{Reply}
use Rattle.kernel_model.specs.Came.{done, refused_if, told_as}
use Rattle.kernel_model.specs.Clock.{read_timer, timer_value}
use Rattle.kernel_model.specs.State.{Kernel}
use Rattle.kernel_model.specs.declared.time.TimerValue.{TimerValue}
use Rattle.native_calls.specs.Clocks as native
use Rattle.native_calls.specs.Step as native_step
use Rattle.native_calls.specs.Table.{native_call}
use Rattle.bridge_log.specs.Looks.{IsLook}
use Rattle.bridge_timer.specs.declared.shown.Shown.{Shown}
use Rattle.bridge_timer.specs.inside.Shown.{shown_at, shown_in, shown_of}

-- The reply and host memory, by whether there is such a timer

abbrev reply_if : Bool → Reply
reply_if there = if there then native_step.value 0 else native_step.failure EINVAL

abbrev room_if : TimerValue → Bool → List ℕ
room_if value there = if there then written (replicate 32 0) 65536 (native.timer_bytes value) else replicate 32 0

abbrev pub shown_reply : ℕ → Reply
shown_reply which = reply_if (which == 0)

abbrev pub shown_room : Kernel → ℕ → List ℕ
shown_room kernel which = room_if (timer_value kernel) (which == 0)

look_of : (kernel : Kernel) (left : List ℕ) (there : Bool)
    → IsLook kernel (reply_if there) (room_if (timer_value kernel) there) left (native_step.stores (replicate 32 0) 65536 (told_as native.timer_bytes (refused_if (not there) EINVAL kernel (done kernel (timer_value kernel)))) left)
look_of kernel left true = record { kernel_stays = refl; left_stays = refl; sends = refl; replied = refl; stored = refl }
look_of kernel left false = record { kernel_stays = refl; left_stays = refl; sends = refl; replied = refl; stored = refl }

pub timer_look : (kernel : Kernel) (left : List ℕ) (first which : ℕ) → first ≡ which → which < 2 ^ 32
    → IsLook kernel (shown_reply which) (shown_room kernel which) left (native_call 102 (first ∷ 65536 ∷ 0 ∷ 0 ∷ 0 ∷ 0 ∷ []) kernel (replicate 32 0) left)
unfolding native.getitimer_row read_timer
timer_look kernel left first which same word =
    let is : first % 2 ^ 32 ≡ which = omega arith in
    subst (λ (n : ℕ). IsLook kernel (shown_reply n) (shown_room kernel n) left (native_call 102 (first ∷ 65536 ∷ 0 ∷ 0 ∷ 0 ∷ 0 ∷ []) kernel (replicate 32 0) left)) is
    (look_of kernel left (first % 2 ^ 32 == 0))

-- What host memory then tells

abbrev low_sum : ℕ → ℕ
low_sum number = number % 256 + 256 * (number / 256 % 256 + 256 * (number / 65536 % 256 + 256 * (number / 16777216 % 256 + 256 * 0)))

low_word : (number : ℕ) → low_sum number ≡ number % 4294967296
low_word number = omega arith

whole_seconds : (time : ℕ) → time / 1000 / 1000000 % 4294967296 ≡ time / 1000000000 % 4294967296
whole_seconds time = omega arith

part_fits : (time : ℕ) → time / 1000 % 1000000 % 4294967296 ≡ time / 1000 % 1000000
part_fits time = omega arith

abbrev told : ℕ → ℕ → ℕ → ℕ → Option Shown
told first second third fourth =
    Some (record { period = record { seconds = first; microseconds = second }; left = record { seconds = third; microseconds = fourth } })

seconds_told : (time : ℕ) → low_sum (time / 1000 / 1000000) ≡ time / 1000000000 % 4294967296
seconds_told time = low_word (time / 1000 / 1000000) ∙ whole_seconds time

microseconds_told : (time : ℕ) → low_sum (time / 1000 % 1000000) ≡ time / 1000 % 1000000
microseconds_told time = low_word (time / 1000 % 1000000) ∙ part_fits time

four_told : (period left : ℕ) → told (low_sum (period / 1000 / 1000000)) (low_sum (period / 1000 % 1000000)) (low_sum (left / 1000 / 1000000)) (low_sum (left / 1000 % 1000000))
    ≡ told (period / 1000000000 % 4294967296) (period / 1000 % 1000000) (left / 1000000000 % 4294967296) (left / 1000 % 1000000)
four_told period left = λ i. told (seconds_told period i) (microseconds_told period i) (seconds_told left i) (microseconds_told left i)

value_told : (value : TimerValue) → shown_in (room_if value true) (reply_if true) ≡ Some (shown_of value)
value_told value = four_told value.period value.left

told_if : (value : TimerValue) (there : Bool) → shown_in (room_if value there) (reply_if there) ≡ (if there then Some (shown_of value) else None)
told_if value true = value_told value
told_if value false = refl

pub shown_told : (kernel : Kernel) (which : ℕ) → shown_in (shown_room kernel which) (shown_reply which) ≡ shown_at kernel which
shown_told kernel which = told_if (timer_value kernel) (which == 0)
