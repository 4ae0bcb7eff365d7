-- The row of alarm(2), as setting the timer.
use Rattle.std.proofs.Common.{◌≡◌, ℕ, ◌+◌, ◌*◌, ◌%◌, ◌^◌, Bool, false, List, Some, Err, Ok, sym, ap, ◌∙◌, arith, if◌then◌else◌}
use Rattle.std.specs.Prelude.{◌||◌, int_lt, pos}
use Rattle.std.proofs.lemmas.Bool.Decides.{nat_tests}
use Rattle.std.proofs.lemmas.Int.{ints}
use Rattle.kernel_core.specs.declared.error.Errno.TheVariants.{EINVAL}
use Rattle.kernel_model.specs.Came.{Did, Given, done, with_given}
use Rattle.kernel_model.specs.Clock.{TimerSetting, alarm, arm_timer, armed, left_until, length_of_val, rounded_seconds, timer_value}
use Rattle.kernel_model.specs.State.{Kernel}
use Rattle.kernel_model.specs.declared.time.TimerValue.{TimerValue}
use Rattle.o32_model.specs.Sleeps as o32
use Rattle.o32_model.specs.Step.{Guest, value}
use Rattle.bridge_log.specs.Storing.{ended, ending}

-- to go off once after so many seconds
abbrev pub once : ℕ → TimerSetting
once seconds = record { value = record { seconds = pos seconds; microseconds = pos 0 }; period = record { seconds = pos 0; microseconds = pos 0 } }

not_below : (seconds : ℕ) → int_lt (pos seconds) (pos 0) ≡ false
not_below seconds = grind (arith, ints, nat_tests)

whole : (seconds : ℕ) → seconds * 1000000000 + 0 ≡ seconds * 1000000000
whole seconds = omega arith

once_length : (seconds : ℕ) → length_of_val (once seconds).value ≡ Ok (seconds * 1000000000)
once_length seconds =
    ap (λ (b : Bool). if b || false then Err EINVAL else Ok (seconds * 1000000000 + 0)) (not_below seconds) ∙ ap (λ (n : ℕ). Ok n) (whole seconds)

abbrev set_to : Kernel → ℕ → Did Kernel TimerValue
set_to kernel length = done (record kernel { timer = armed kernel.clock length 0 }) (timer_value kernel)

once_set : (kernel : Kernel) (seconds : ℕ) → arm_timer kernel 0 (Some (Ok (once seconds))) ≡ set_to kernel (seconds * 1000000000)
unfolding arm_timer
once_set kernel seconds = ap (λ (length : Given ℕ). with_given kernel length (λ length. set_to kernel length)) (once_length seconds)

abbrev pub seconds_given : ℕ → ℕ
seconds_given left = rounded_seconds left % 2 ^ 32

pub alarm_ended : (kernel : Kernel) (guest : Guest) (seconds : ℕ) (left : List ℕ) (time number : ℕ) → time ≡ left_until kernel.clock kernel.timer.due → number ≡ seconds_given time
    → o32.alarm_row kernel guest seconds left ≡ ended (arm_timer kernel 0 (Some (Ok (once seconds)))).state guest.processor left (ending (value number) guest.memory)
unfolding o32.alarm_row alarm
alarm_ended kernel guest seconds left time number is given =
    ap (λ (d : Did Kernel TimerValue). ended d.state guest.processor left (ending (value (seconds_given (left_until kernel.clock kernel.timer.due))) guest.memory)) (sym (once_set kernel seconds))
    ∙ ap (λ (n : ℕ). ended (arm_timer kernel 0 (Some (Ok (once seconds)))).state guest.processor left (ending (value n) guest.memory)) (sym (given ∙ ap seconds_given is))
