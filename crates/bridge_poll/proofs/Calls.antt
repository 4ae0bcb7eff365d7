-- The rows of the calls, by their words.
use Rattle.std.proofs.Common.{◌≡◌, ℕ, ℤ, List, Option, Some, None, Ok, Err, refl, sym, ap, ◌∙◌}
use Rattle.guest_space.specs.Memory.{Memory}
use Rattle.kernel_core.specs.declared.error.Errno.TheVariants.{EFAULT}
use Rattle.kernel_model.specs.Came.{Given}
use Rattle.kernel_model.specs.Clock.{checked_or_none, length_of}
use Rattle.kernel_model.specs.Readiness.{poll, poll_wait}
use Rattle.kernel_model.specs.Shared.{Errno}
use Rattle.kernel_model.specs.SignalSets.{SignalSet}
use Rattle.kernel_model.specs.State.{Kernel}
use Rattle.o32_model.specs.GuestBytes.{unless_null}
use Rattle.o32_model.specs.Masks.{set_at, with_own_mask}
use Rattle.o32_model.specs.Polling.{poll_row, polled, ppoll_row, ppolled}
use Rattle.o32_model.specs.Step.{Guest, O32Step, failure}
use Rattle.o32_model.specs.Table.{call_of, machine_call, seeing_call_of, seeing_step_of}
use Rattle.o32_model.specs.Times.{spec_at}
use Rattle.o32_model.specs.Words.{argument, signed_argument, stack_word}
use Rattle.o32_model.specs.declared.outcome.Outcome.{Outcome}
use Rattle.o32_model.specs.declared.outcome.Outcome.TheVariants as outcomes
use Rattle.o32_model.specs.declared.wait.Seen.{Seen}
use Rattle.bridge_limits.proofs.LimitedRows.{step_of}
use Rattle.bridge_limits.specs.Limits.{given_mask, length_at}
use Rattle.bridge_limits.specs.declared.masks.OwnMask.{OwnMask}
use Rattle.bridge_limits.specs.declared.masks.OwnMask.TheVariants as masks
use Rattle.bridge_limits.specs.declared.times.TimeForm.TheVariants as forms
use Rattle.bridge_limits.specs.declared.times.TimePlace.{TimePlace}
use Rattle.bridge_poll.specs.declared.entries.Entries.{Entries}
use Rattle.bridge_poll.specs.declared.limited.Limits.{Limits}
use Rattle.bridge_poll.specs.inside.Limited.{limited_row}

abbrev pub entries_of : ℕ → ℕ → Entries
entries_of address count = record { address = address; count = count }

-- poll(2)

unmasked : (kernel : Kernel) (step : O32Step) → with_own_mask kernel None step ≡ step
unmasked kernel step = by step.outcome refl where
  by : (outcome : Outcome) → step.outcome ≡ outcome → with_own_mask kernel None step ≡ step
  by (outcomes.Value value) is = rw is refl
  by (outcomes.Pair first second) is = rw is refl
  by (outcomes.Error error) is = rw is refl
  by (outcomes.Sleep wait) is = rw is refl
  by outcomes.Frame is = rw is refl
  by outcomes.BadFrame is = rw is refl
  by (outcomes.Exit status) is = rw is refl

abbrev pub poll_limits : Option ℕ → Limits
poll_limits wait = record { wait = wait; own = masks.None; size = 0; left = None }

pub poll_limited : (kernel : Kernel) (guest : Guest) (address count : ℕ) (milliseconds : ℤ) (wait : Option ℕ) (left : List ℕ) → poll_wait milliseconds ≡ Ok wait
    → limited_row kernel guest (entries_of address count) (poll_limits wait) left ≡ poll_row kernel guest address count milliseconds left
unfolding poll_row
poll_limited kernel guest address count milliseconds wait left is =
    unmasked kernel (polled kernel guest address count (Ok wait) left)
    ∙ ap (λ (w : Given (Option ℕ)). polled kernel guest address count w left) (sym is)

-- ppoll(2)

abbrev pub time_place : ℕ → TimePlace
time_place address = record { form = forms.Nanoseconds; address = address }

abbrev pub ppoll_limits : Option ℕ → OwnMask → ℕ → ℕ → Limits
ppoll_limits wait own size time = record { wait = wait; own = own; size = size; left = Some (time_place time) }

ppoll_is : (kernel : Kernel) (guest : Guest) (address count time mask size : ℕ) (length : Given (Option ℕ)) (left : List ℕ) → checked_or_none length_of (unless_null time (spec_at guest.memory time)) ≡ length
    → ppoll_row kernel guest address count time mask (Some size) left ≡ ppolled kernel guest address count time length size (unless_null mask (set_at guest.memory mask)) left
unfolding ppoll_row
ppoll_is kernel guest address count time mask size length left is =
    ap (λ (l : Given (Option ℕ)). ppolled kernel guest address count time l size (unless_null mask (set_at guest.memory mask)) left) is

pub ppoll_limited : (kernel : Kernel) (guest : Guest) (memory : Memory) (address count time mask size : ℕ) (wait : Option ℕ) (own : OwnMask) (left : List ℕ) → guest.memory ≡ memory
    → Ok wait ≡ length_at memory (time_place time) → given_mask own ≡ unless_null mask (set_at memory mask)
    → limited_row kernel guest (entries_of address count) (ppoll_limits wait own size time) left ≡ ppoll_row kernel guest address count time mask (Some size) left
ppoll_limited kernel guest memory address count time mask size wait own left same timed masked =
    ap (λ (m : Option (Given SignalSet)). ppolled kernel guest address count time (Ok wait) size m left) (masked ∙ ap (λ (m : Memory). unless_null mask (set_at m mask)) (sym same))
    ∙ sym (ppoll_is kernel guest address count time mask size (Ok wait) left (sym (timed ∙ ap (λ (m : Memory). length_at m (time_place time)) (sym same))))

refused_so : (kernel : Kernel) (guest : Guest) (address count time size : ℕ) (mask : Option (Given SignalSet)) (error : Errno) (left : List ℕ)
    → ppolled kernel guest address count time (Err error) size mask left ≡ step_of kernel guest left guest.memory (failure error)
unfolding poll
refused_so kernel guest address count time size mask error left = refl

pub ppoll_refused : (kernel : Kernel) (guest : Guest) (memory : Memory) (address count time mask size : ℕ) (error : Errno) (left : List ℕ) → guest.memory ≡ memory → Err error ≡ length_at memory (time_place time)
    → ppoll_row kernel guest address count time mask (Some size) left ≡ step_of kernel guest left guest.memory (failure error)
ppoll_refused kernel guest memory address count time mask size error left same timed =
    ppoll_is kernel guest address count time mask size (Err error) left (sym (timed ∙ ap (λ (m : Memory). length_at m (time_place time)) (sym same)))
    ∙ refused_so kernel guest address count time size (unless_null mask (set_at guest.memory mask)) error left

pub ppoll_unsized : (kernel : Kernel) (guest : Guest) (address count time mask : ℕ) (size : Option ℕ) (left : List ℕ) → size ≡ None
    → ppoll_row kernel guest address count time mask size left ≡ step_of kernel guest left guest.memory (failure EFAULT)
unfolding ppoll_row
ppoll_unsized kernel guest address count time mask size left none = ap (λ (s : Option ℕ). ppoll_row kernel guest address count time mask s left) none

-- By their numbers

-- what a machine's call of a number does
abbrev call_at : ℕ → Seen → Kernel → Guest → List ℕ → O32Step
call_at number seen kernel guest left = seeing_step_of (call_of number) (seeing_call_of number) seen kernel guest left

pub called_poll : (seen : Seen) (kernel : Kernel) (guest : Guest) (left : List ℕ) → guest.words.nr ≡ 4188
    → poll_row kernel guest (argument guest.words 0) (argument guest.words 1) (signed_argument guest.words 2) left ≡ machine_call seen kernel guest left
called_poll seen kernel guest left number = sym (ap (λ (n : ℕ). call_at n seen kernel guest left) number)

pub called_ppoll : (seen : Seen) (kernel : Kernel) (guest : Guest) (left : List ℕ) → guest.words.nr ≡ 4302
    → ppoll_row kernel guest (argument guest.words 0) (argument guest.words 1) (argument guest.words 2) (argument guest.words 3) (stack_word guest.words 0) left ≡ machine_call seen kernel guest left
called_ppoll seen kernel guest left number = sym (ap (λ (n : ℕ). call_at n seen kernel guest left) number)
