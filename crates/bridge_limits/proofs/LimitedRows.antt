-- What a call does that waits for descriptors, with a time and a mask of its own, by what its row came to.
use Rattle.std.proofs.Common.{◌≡◌, ℕ, Bool, true, false, List, Option, Some, None, Ok, Err, refl, sym, ap, ◌∙◌}
use Rattle.guest_space.specs.Memory.{Memory}
use Rattle.kernel_model.specs.Came.{Came, Done, Refused, Waits, Did, Given}
use Rattle.kernel_model.specs.Clock.{left_of_wait}
use Rattle.kernel_model.specs.Pipes.{nothing}
use Rattle.kernel_model.specs.Shared.{Errno, Wake}
use Rattle.kernel_model.specs.SignalSets.{SignalSet}
use Rattle.kernel_model.specs.State.{Kernel}
use Rattle.o32_model.specs.Masks.{with_own_mask}
use Rattle.o32_model.specs.Results.{Piece, all_fit, stores_pieces, value_if, with_pieces}
use Rattle.o32_model.specs.Step.{Guest, O32Step, failure, wait_of}
use Rattle.o32_model.specs.TimeLeft.{LeftForm, with_left_of, with_time_left}
use Rattle.o32_model.specs.declared.outcome.Outcome.{Outcome}
use Rattle.o32_model.specs.declared.outcome.Outcome.TheVariants as outcomes
use Rattle.o32_model.specs.declared.wait.Wait.{Wait}
use Rattle.bridge_limits.specs.Limits.{asleep, masked_kernel}

-- the step of a call that moves no byte of a stream
abbrev pub step_of : Kernel → Guest → List ℕ → Memory → Outcome → O32Step
step_of kernel guest left memory outcome = record {
  kernel = kernel;
  left = left;
  memory = memory;
  processor = guest.processor;
  sent = nothing;
  outcome = outcome;
}

-- how much is left of a wait of a length that may be wrong: nothing is stored then
abbrev pub left_after : Kernel → Given (Option ℕ) → Option ℕ
left_after kernel (Err error) = None
left_after kernel (Ok length) = left_of_wait kernel kernel.clock length

-- what the call leaves, and what it comes to

abbrev pub limited_kernel : {V : Type 0} → Kernel → Option (Given SignalSet) → Came V → Kernel
limited_kernel kernel mask (Done found) = kernel
limited_kernel kernel mask (Refused error) = kernel
limited_kernel kernel mask (Waits wake) = masked_kernel kernel mask

abbrev pub limited_memory : {V : Type 0} → (V → List Piece) → LeftForm → Option ℕ → Memory → Came V → Memory
limited_memory pieces_of form left memory (Done found) = with_left_of form memory left (with_pieces memory (pieces_of found))
limited_memory pieces_of form left memory (Refused error) = with_left_of form memory left memory
limited_memory pieces_of form left memory (Waits wake) = memory

abbrev pub limited_outcome : {V : Type 0} → (V → List Piece) → (V → ℕ) → Kernel → Option (Given SignalSet) → Guest → Came V → Outcome
limited_outcome pieces_of number_of kernel mask guest (Done found) = value_if (all_fit guest.memory (pieces_of found)) (number_of found)
limited_outcome pieces_of number_of kernel mask guest (Refused error) = failure error
limited_outcome pieces_of number_of kernel mask guest (Waits wake) = asleep kernel (wait_of guest.words wake) mask

-- A step that comes to an outcome, by whether that is a value

abbrev ends : Kernel → Guest → List ℕ → LeftForm → Given (Option ℕ) → Option (Given SignalSet) → Memory → Outcome → O32Step
ends kernel guest left form length mask memory outcome =
    with_time_left form kernel guest.memory length (with_own_mask kernel mask (step_of kernel guest left memory outcome))

value_ends : (kernel : Kernel) (guest : Guest) (left : List ℕ) (form : LeftForm) (length : Given (Option ℕ)) (mask : Option (Given SignalSet)) (memory : Memory) (room : Bool) (number : ℕ)
    → ends kernel guest left form length mask memory (value_if room number) ≡ step_of kernel guest left (with_left_of form guest.memory (left_after kernel length) memory) (value_if room number)
value_ends kernel guest left form (Ok length) mask memory true number = refl
value_ends kernel guest left form (Ok length) mask memory false number = refl
value_ends kernel guest left form (Err error) mask memory true number = refl
value_ends kernel guest left form (Err error) mask memory false number = refl

error_ends : (kernel : Kernel) (guest : Guest) (left : List ℕ) (form : LeftForm) (length : Given (Option ℕ)) (mask : Option (Given SignalSet)) (memory : Memory) (error : Errno)
    → ends kernel guest left form length mask memory (failure error) ≡ step_of kernel guest left (with_left_of form guest.memory (left_after kernel length) memory) (failure error)
error_ends kernel guest left form (Ok length) mask memory error = refl
error_ends kernel guest left form (Err wrong) mask memory error = refl

wait_ends : (kernel : Kernel) (guest : Guest) (left : List ℕ) (form : LeftForm) (length : Given (Option ℕ)) (mask : Option (Given SignalSet)) (memory : Memory) (wait : Wait)
    → ends kernel guest left form length mask memory (outcomes.Sleep wait) ≡ step_of (masked_kernel kernel mask) guest left memory (asleep kernel wait mask)
wait_ends kernel guest left form (Ok length) None memory wait = refl
wait_ends kernel guest left form (Ok length) (Some (Ok mask)) memory wait = refl
wait_ends kernel guest left form (Ok length) (Some (Err error)) memory wait = refl
wait_ends kernel guest left form (Err wrong) None memory wait = refl
wait_ends kernel guest left form (Err wrong) (Some (Ok mask)) memory wait = refl
wait_ends kernel guest left form (Err wrong) (Some (Err error)) memory wait = refl

abbrev pub with_came : {V : Type 0} → Kernel → Came V → Did Kernel V
with_came kernel came = record { state = kernel; came = came }

-- ppoll(2), pselect(2): with a time and a mask
pub limited : {V : Type 0} (pieces_of : V → List Piece) (number_of : V → ℕ) (form : LeftForm) (kernel : Kernel) (guest : Guest) (length : Given (Option ℕ)) (mask : Option (Given SignalSet)) (came : Came V) (left : List ℕ)
    → with_time_left form kernel guest.memory length (with_own_mask kernel mask (stores_pieces pieces_of number_of guest (with_came kernel came) left))
    ≡ step_of (limited_kernel kernel mask came) guest left (limited_memory pieces_of form (left_after kernel length) guest.memory came) (limited_outcome pieces_of number_of kernel mask guest came)
limited pieces_of number_of form kernel guest length mask (Done found) left =
    value_ends kernel guest left form length mask (with_pieces guest.memory (pieces_of found)) (all_fit guest.memory (pieces_of found)) (number_of found)
limited pieces_of number_of form kernel guest length mask (Refused error) left = error_ends kernel guest left form length mask guest.memory error
limited pieces_of number_of form kernel guest length mask (Waits wake) left = wait_ends kernel guest left form length mask guest.memory (wait_of guest.words wake)

-- a mask that is none changes nothing
unmasked_step : (kernel : Kernel) (step : O32Step) → with_own_mask kernel None step ≡ step
unmasked_step kernel step = by step.outcome refl where
  by : (outcome : Outcome) → step.outcome ≡ outcome → with_own_mask kernel None step ≡ step
  by (outcomes.Value value) is = rw is refl
  by (outcomes.Pair first second) is = rw is refl
  by (outcomes.Error error) is = rw is refl
  by (outcomes.Sleep wait) is = rw is refl
  by outcomes.Frame is = rw is refl
  by outcomes.BadFrame is = rw is refl
  by (outcomes.Exit status) is = rw is refl

-- select(2): with a time alone
pub limited_by_time : {V : Type 0} (pieces_of : V → List Piece) (number_of : V → ℕ) (form : LeftForm) (kernel : Kernel) (guest : Guest) (length : Given (Option ℕ)) (came : Came V) (left : List ℕ)
    → with_time_left form kernel guest.memory length (stores_pieces pieces_of number_of guest (with_came kernel came) left)
    ≡ step_of (limited_kernel kernel None came) guest left (limited_memory pieces_of form (left_after kernel length) guest.memory came) (limited_outcome pieces_of number_of kernel None guest came)
limited_by_time pieces_of number_of form kernel guest length came left =
    ap (with_time_left form kernel guest.memory length) (sym (unmasked_step kernel (stores_pieces pieces_of number_of guest (with_came kernel came) left)))
    ∙ limited pieces_of number_of form kernel guest length None came left

-- poll(2): no time is stored, and there is no mask
pub unlimited : {V : Type 0} (pieces_of : V → List Piece) (number_of : V → ℕ) (form : LeftForm) (kernel : Kernel) (guest : Guest) (came : Came V) (left : List ℕ)
    → stores_pieces pieces_of number_of guest (with_came kernel came) left
    ≡ step_of (limited_kernel kernel None came) guest left (limited_memory pieces_of form None guest.memory came) (limited_outcome pieces_of number_of kernel None guest came)
unlimited pieces_of number_of form kernel guest (Done found) left = refl
unlimited pieces_of number_of form kernel guest (Refused error) left = refl
unlimited pieces_of number_of form kernel guest (Waits wake) left = refl

-- A call that waits, by what was left and what it came to

pub sleeps : (kernel became : Kernel) (guest : Guest) (left : List ℕ) (mask : Option (Given SignalSet)) (wake : Wake) (outcome : Outcome) (step : O32Step)
    → step ≡ step_of (masked_kernel kernel mask) guest left guest.memory (asleep kernel (wait_of guest.words wake) mask)
    → outcome ≡ asleep kernel (wait_of guest.words wake) mask → became ≡ masked_kernel kernel mask
    → step ≡ step_of became guest left guest.memory outcome
sleeps kernel became guest left mask wake outcome step row came same =
    row ∙ ap (λ (k : Kernel). step_of k guest left guest.memory (asleep kernel (wait_of guest.words wake) mask)) (sym same)
    ∙ ap (step_of became guest left guest.memory) (sym came)
