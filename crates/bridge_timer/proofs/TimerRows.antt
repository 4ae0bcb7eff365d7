-- The rows of the timer, by what it shows and how it is set.
use Rattle.std.proofs.Common.{◌≡◌, ℕ, suc, ◌/◌, ◌%◌, ◌-◌, ◌<◌, Bool, true, false, List, [], ◌∷◌, Option, Some, None, Ok, Err, refl, sym, ap, subst, ◌∙◌, arith, if◌then◌else◌}
use Rattle.std.specs.Prelude.{nat_lt, ◌==◌, not, ⊤, pos, negsuc, ◌-ℤ◌}
use Rattle.std.proofs.lemmas.Bool.Decides.{nat_tests}
use Rattle.std.proofs.lemmas.Int.{ints}
use Rattle.kernel_core.specs.declared.error.Errno.{Errno}
use Rattle.kernel_core.specs.declared.error.Errno.TheVariants.{EINVAL, EPERM}
use Rattle.kernel_core.specs.declared.reply.Reply.{Reply}
use Rattle.kernel_model.specs.Came.{Came, Done, Refused, Waits, Did, Given, came_as, done, refused_if, told_as, with_given}
use Rattle.kernel_model.specs.Clock.{TimerSetting, arm_timer, armed, in_microseconds, length_of_val, read_timer, timer_value}
use Rattle.kernel_model.specs.State.{Kernel}
use Rattle.kernel_model.specs.declared.time.TimerValue.{TimerValue}
use Rattle.layouts.specs.Number.{number_for, value_of}
use Rattle.native_calls.specs.Clocks as native
use Rattle.native_calls.specs.HostBytes as host
use Rattle.native_calls.specs.Step as native_step
use Rattle.native_calls.specs.Table.{native_call}
use Rattle.o32_model.specs.Sleeps as o32
use Rattle.o32_model.specs.Step as o32_step
use Rattle.o32_model.specs.Step.{Guest, O32Step, value}
use Rattle.o32_model.specs.Times.{seconds_field}
use Rattle.bridge_timer.specs.declared.shown.Shown.{Shown}
use Rattle.bridge_timer.specs.inside.Acts.{IsAct}
use Rattle.bridge_log.specs.Storing.{ended, ending, stores}
use Rattle.bridge_timer.specs.inside.Endings.{set_ending, shown_ending}
use Rattle.bridge_timer.specs.inside.Shown.{shown_at, shown_bytes, shown_of}

-- The bytes of what is shown

-- the four bytes of a number's low 32 bits, and others behind them
abbrev digits : ℕ → List ℕ → List ℕ
digits number rest = number / 16777216 % 256 ∷ number / 65536 % 256 ∷ number / 256 % 256 ∷ number % 256 ∷ rest

number_back : (number : ℕ) → number < 4294967296 → number_for 4 (value_of true 4 number) ≡ number
number_back number small = by (nat_lt number 2147483648) refl where
  by : (b : Bool) → nat_lt number 2147483648 ≡ b → number_for 4 (if b then pos number else pos number -ℤ pos 4294967296) ≡ number
  by true low = refl
  by false high =
      let negative : pos number -ℤ pos 4294967296 ≡ negsuc (4294967296 - suc number) = omega (arith, ints) in
      ap (number_for 4) negative ∙ (let back : 4294967296 - suc (4294967296 - suc number) ≡ number = omega arith in back)

seconds_low : (time : ℕ) → number_for 4 (seconds_field time) ≡ time / 1000000000 % 4294967296
seconds_low time =
    let small : time / 1000000000 % 4294967296 < 4294967296 = omega arith in number_back (time / 1000000000 % 4294967296) small

pub bytes_again : (timer : TimerValue) → o32.timer_bytes timer ≡ shown_bytes (shown_of timer)
bytes_again timer =
    let first : ℕ = in_microseconds timer.period % 1000000 in
    let second : ℕ = in_microseconds timer.left % 1000000 in
    λ i. digits (seconds_low timer.period i) (digits first (digits (seconds_low timer.left i) (digits second [])))

-- getitimer

stored_again : (kernel : Kernel) (guest : Guest) (address : ℕ) (left : List ℕ) (timer : TimerValue)
    → ended kernel guest.processor left (stores guest.memory address (o32.timer_bytes timer) 0) ≡ ended kernel guest.processor left (stores guest.memory address (shown_bytes (shown_of timer)) 0)
stored_again kernel guest address left timer = ap (λ (bytes : List ℕ). ended kernel guest.processor left (stores guest.memory address bytes 0)) (bytes_again timer)

pub getitimer_ended : (kernel : Kernel) (guest : Guest) (which address : ℕ) (left : List ℕ)
    → o32.getitimer_row kernel guest which address left ≡ ended kernel guest.processor left (shown_ending guest.memory address (shown_at kernel which))
unfolding o32.getitimer_row read_timer
getitimer_ended kernel guest which address left = by (which == 0) where
  by : (there : Bool) → o32_step.stores guest address (told_as o32.timer_bytes (refused_if (not there) EINVAL kernel (done kernel (timer_value kernel)))) left
      ≡ ended kernel guest.processor left (shown_ending guest.memory address (if there then Some (shown_of (timer_value kernel)) else None))
  by true = stored_again kernel guest address left (timer_value kernel)
  by false = refl

-- setitimer

-- the timer's value is told, or it is an error
abbrev Tells : Kernel → Came TimerValue → Type 0
Tells kernel (Done found) = found ≡ timer_value kernel
Tells kernel (Refused error) = ⊤
Tells kernel (Waits wake) = ⊥

-- a setting is armed, or it is none
with_period : (kernel : Kernel) (length : ℕ) (period : Given ℕ) → Tells kernel (with_given kernel period (λ period. done (record kernel { timer = armed kernel.clock length period }) (timer_value kernel))).came
with_period kernel length (Err error) = tt
with_period kernel length (Ok period) = refl

with_length : (kernel : Kernel) (setting : TimerSetting) (length : Given ℕ)
    → Tells kernel (with_given kernel length (λ length. with_given kernel (length_of_val setting.period) (λ period. done (record kernel { timer = armed kernel.clock length period }) (timer_value kernel)))).came
with_length kernel setting (Err error) = tt
with_length kernel setting (Ok length) = with_period kernel length (length_of_val setting.period)

arm_tells : (kernel : Kernel) (setting : Option (Given TimerSetting)) → Tells kernel (arm_timer kernel 0 setting).came
unfolding arm_timer
arm_tells kernel None = refl
arm_tells kernel (Some (Err error)) = tt
arm_tells kernel (Some (Ok setting)) = with_length kernel setting (length_of_val setting.value)

abbrev did : Kernel → Came TimerValue → Did Kernel TimerValue
did became came = record { state = became; came = came }

row_by : Guest → ℕ → List ℕ → Did Kernel TimerValue → Bool → O32Step
row_by guest old left did null =
    if null then o32_step.gives guest (told_as (λ _. 0) (told_as o32.timer_bytes did)) left else o32_step.stores guest old (told_as o32.timer_bytes did) left

set_done : (kernel became : Kernel) (guest : Guest) (old : ℕ) (left : List ℕ) (null : Bool)
    → row_by guest old left (did became (Done (timer_value kernel))) null
    ≡ ended became guest.processor left (if null then ending (value 0) guest.memory else stores guest.memory old (shown_bytes (shown_of (timer_value kernel))) 0)
unfolding row_by
set_done kernel became guest old left true = refl
set_done kernel became guest old left false = stored_again became guest old left (timer_value kernel)

set_refused : (became : Kernel) (guest : Guest) (old : ℕ) (left : List ℕ) (error : Errno) (null : Bool)
    → row_by guest old left (did became (Refused error)) null ≡ ended became guest.processor left (ending (o32_step.failure error) guest.memory)
unfolding row_by
set_refused became guest old left error true = refl
set_refused became guest old left error false = refl

-- how the native call replies, by what setting the timer came to
abbrev pub set_reply : Came TimerValue → Reply
set_reply came = native_step.reply_to (λ _. native_step.value 0) came

failed_ending : (guest : Guest) (old : ℕ) (shown : Shown) (error : Errno) → set_ending guest.words guest.memory old shown (native_step.failure error) ≡ ending (o32_step.failure error) guest.memory
failed_ending guest old shown EPERM = refl
failed_ending guest old shown _ = refl

set_by : (kernel became : Kernel) (guest : Guest) (old : ℕ) (left : List ℕ) (came : Came TimerValue) → Tells kernel came
    → row_by guest old left (did became came) (old == 0) ≡ ended became guest.processor left (set_ending guest.words guest.memory old (shown_of (timer_value kernel)) (set_reply came))
set_by kernel became guest old left (Done found) is =
    ap (λ (value : TimerValue). row_by guest old left (did became (Done value)) (old == 0)) is ∙ set_done kernel became guest old left (old == 0)
set_by kernel became guest old left (Refused error) is =
    set_refused became guest old left error (old == 0) ∙ ap (ended became guest.processor left) (sym (failed_ending guest old (shown_of (timer_value kernel)) error))
set_by kernel became guest old left (Waits wake) is = absurd is

setitimer_ended : (kernel : Kernel) (guest : Guest) (new old : ℕ) (left : List ℕ)
    → o32.setitimer_row kernel guest 0 new old left
    ≡ ended (arm_timer kernel 0 (o32.setting_at guest.memory new)).state guest.processor left (set_ending guest.words guest.memory old (shown_of (timer_value kernel)) (set_reply (arm_timer kernel 0 (o32.setting_at guest.memory new)).came))
unfolding o32.setitimer_row row_by
setitimer_ended kernel guest new old left =
    let there = arm_timer kernel 0 (o32.setting_at guest.memory new) in
    set_by kernel there.state guest old left there.came (arm_tells kernel (o32.setting_at guest.memory new))

-- by what was shown before, and the reply
pub set_as : (kernel : Kernel) (guest : Guest) (new old : ℕ) (left : List ℕ) (shown : Shown) (reply : Reply) → shown ≡ shown_of (timer_value kernel) → reply ≡ set_reply (arm_timer kernel 0 (o32.setting_at guest.memory new)).came
    → o32.setitimer_row kernel guest 0 new old left ≡ ended (arm_timer kernel 0 (o32.setting_at guest.memory new)).state guest.processor left (set_ending guest.words guest.memory old shown reply)
set_as kernel guest new old left shown reply shows replied =
    let after = (arm_timer kernel 0 (o32.setting_at guest.memory new)).state in
    setitimer_ended kernel guest new old left
    ∙ ap (λ (s : Shown). ended after guest.processor left (set_ending guest.words guest.memory old s (set_reply (arm_timer kernel 0 (o32.setting_at guest.memory new)).came))) (sym shows)
    ∙ ap (λ (r : Reply). ended after guest.processor left (set_ending guest.words guest.memory old shown r)) (sym replied)

-- another timer is not there

refused_there : (kernel : Kernel) (which : ℕ) (setting : Option (Given TimerSetting)) → (which == 0) ≡ false → arm_timer kernel which setting ≡ did kernel (Refused EINVAL)
unfolding arm_timer
refused_there kernel which None none = rw none refl
refused_there kernel which (Some setting) none = rw none refl

pub setitimer_none : (kernel : Kernel) (guest : Guest) (which new old : ℕ) (left : List ℕ) → (which == 0) ≡ false
    → o32.setitimer_row kernel guest which new old left ≡ ended kernel guest.processor left (ending (o32_step.failure EINVAL) guest.memory)
unfolding o32.setitimer_row row_by
setitimer_none kernel guest which new old left none =
    ap (λ (d : Did Kernel TimerValue). row_by guest old left d (old == 0)) (refused_there kernel which (o32.setting_at guest.memory new) none) ∙ set_refused kernel guest old left EINVAL (old == 0)

-- The native call

told_alike : (memory : List ℕ) (came : Came TimerValue) → native_step.reply_to (native_step.stored_unless_null memory 0) (came_as native.timer_bytes came) ≡ set_reply came
told_alike memory (Done found) = refl
told_alike memory (Refused error) = refl
told_alike memory (Waits wake) = refl

pub set_act : (kernel : Kernel) (memory left : List ℕ) (first place : ℕ) → first ≡ 0
    → IsAct (arm_timer kernel 0 (host.unless_null place (native.setting_at memory place))).state (set_reply (arm_timer kernel 0 (host.unless_null place (native.setting_at memory place))).came) left
    (native_call 103 (first ∷ place ∷ 0 ∷ 0 ∷ 0 ∷ 0 ∷ []) kernel memory left)
unfolding native.setitimer_row
set_act kernel memory left first place zero =
    subst (λ (n : ℕ). IsAct (arm_timer kernel 0 (host.unless_null place (native.setting_at memory place))).state (set_reply (arm_timer kernel 0 (host.unless_null place (native.setting_at memory place))).came) left
    (native_call 103 (n ∷ place ∷ 0 ∷ 0 ∷ 0 ∷ 0 ∷ []) kernel memory left)) (sym zero)
    (record { becomes = refl; left_stays = refl; sends = refl; replied = told_alike memory (arm_timer kernel 0 (host.unless_null place (native.setting_at memory place))).came })

-- What was shown says which timer it is

none_is : (kernel : Kernel) (there : Bool) → None ≡ (if there then Some (shown_of (timer_value kernel)) else None) → there ≡ false
none_is kernel true is = absurd cc
none_is kernel false is = refl

pub not_there : (kernel : Kernel) (which : ℕ) → None ≡ shown_at kernel which → (which == 0) ≡ false
not_there kernel which is = none_is kernel (which == 0) is

some_is : (kernel : Kernel) (shown : Shown) (there : Bool) → Some shown ≡ (if there then Some (shown_of (timer_value kernel)) else None) → (there ≡ true) × (shown ≡ shown_of (timer_value kernel))
some_is kernel shown true is = (refl, cc)
some_is kernel shown false is = absurd cc

pub there_is : (kernel : Kernel) (which : ℕ) (shown : Shown) → Some shown ≡ shown_at kernel which → (which ≡ 0) × (shown ≡ shown_of (timer_value kernel))
there_is kernel which shown is =
    let found = some_is kernel shown (which == 0) is in
    let zero : which ≡ 0 = grind (arith, nat_tests, found.0) in (zero, found.1)
