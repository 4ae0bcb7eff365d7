-- What a call with limits does, by what the native call answered.
use Rattle.std.proofs.Common.{◌≡◌, ℕ, Bool, true, false, List, Option, Some, None, Ok, Err, refl, sym, ap, subst, ◌∙◌}
use Rattle.std.specs.Prelude.{Result, count_by}
use Rattle.guest_space.specs.Memory.{Memory}
use Rattle.kernel_core.specs.declared.error.Errno.{Errno}
use Rattle.kernel_model.specs.Came.{Came, Did, Done, Given, Refused, Waits, waits}
use Rattle.kernel_model.specs.Clock.{left_of_wait}
use Rattle.kernel_model.specs.Readiness.{is_any}
use Rattle.kernel_model.specs.Shared.{PollSet}
use Rattle.kernel_model.specs.SignalSets.{SignalSet}
use Rattle.kernel_model.specs.State.{Kernel}
use Rattle.o32_model.specs.Masks.{with_own_mask}
use Rattle.o32_model.specs.Polling.{entry_pieces}
use Rattle.o32_model.specs.Results.{Piece, all_fit, stores_pieces, value_if, with_pieces}
use Rattle.o32_model.specs.Step.{Guest, O32Step, wait_of}
use Rattle.o32_model.specs.declared.call_words.CallWords.{CallWords}
use Rattle.o32_model.specs.declared.outcome.Outcome.{Outcome}
use Rattle.bridge_limits.proofs.LimitedRows.{limited, limited_kernel, limited_outcome, step_of, with_came}
use Rattle.bridge_limits.proofs.Storing.{alike_is, alike_pieces, alike_same, alike_then, left_of_alike}
use Rattle.bridge_limits.specs.Limits.{ShowsLeft, StoresAlike, asleep, given_mask, left_form, masked_kernel}
use Rattle.bridge_limits.specs.declared.times.TimePlace.{TimePlace}
use Rattle.bridge_poll.specs.declared.asking.Came as asking
use Rattle.bridge_poll.specs.declared.asking.Came.TheVariants as cames
use Rattle.bridge_poll.specs.declared.asking.Came.TheVariants.{Ended}
use Rattle.bridge_poll.specs.declared.entries.Entries.{Entries}
use Rattle.bridge_poll.specs.declared.limited.Limits.{Limits}
use Rattle.bridge_poll.specs.inside.Asking.{Comes, Ends, polling}
use Rattle.bridge_poll.specs.inside.Limited.{limited_by, limited_row, outcome_by, timed, told_memory, with_left_if}
use Rattle.bridge_poll.specs.inside.Telling.{pieces_told, told_all, told_bytes}

-- memory after what the row came to
abbrev memory_by : {V : Type 0} → (V → List Piece) → Option TimePlace → Option ℕ → Memory → Came V → Memory
memory_by pieces_of left time memory (Done found) = with_left_if left memory time (with_pieces memory (pieces_of found))
memory_by pieces_of left time memory (Refused error) = with_left_if left memory time memory
memory_by pieces_of left time memory (Waits wake) = memory

module _ {V : Type 0} (pieces_of : V → List Piece) (number_of : V → ℕ) (kernel : Kernel) (guest : Guest) (mask : Option (Given SignalSet)) (left : List ℕ) where
  abbrev stored : Came V → O32Step
  stored came = with_own_mask kernel mask (stores_pieces pieces_of number_of guest (with_came kernel came) left)

  value_kept : (memory : Memory) (room : Bool) (number : ℕ) → with_own_mask kernel mask (step_of kernel guest left memory (value_if room number)) ≡ step_of kernel guest left memory (value_if room number)
  value_kept memory true number = refl
  value_kept memory false number = refl

  -- where no time is stored
  untimed : (came : Came V) → stored came ≡ step_of (limited_kernel kernel mask came) guest left (memory_by pieces_of None None guest.memory came) (limited_outcome pieces_of number_of kernel mask guest came)
  untimed (Done found) = value_kept (with_pieces guest.memory (pieces_of found)) (all_fit guest.memory (pieces_of found)) (number_of found)
  untimed (Refused error) = refl
  untimed (Waits wake) = by mask where
    by : (own : Option (Given SignalSet)) → with_own_mask kernel own (stores_pieces pieces_of number_of guest (with_came kernel (Waits wake)) left)
        ≡ step_of (masked_kernel kernel own) guest left guest.memory (asleep kernel (wait_of guest.words wake) own)
    by None = refl
    by (Some (Ok set)) = refl
    by (Some (Err error)) = refl

  none_left : (time : Option ℕ) (came : Came V) → memory_by pieces_of None None guest.memory came ≡ memory_by pieces_of None time guest.memory came
  none_left time (Done found) = refl
  none_left time (Refused error) = refl
  none_left time (Waits wake) = refl

  some_left : (at : TimePlace) (wait : Option ℕ) (came : Came V)
      → timed (Some at) kernel guest.memory wait (stored came)
      ≡ step_of (limited_kernel kernel mask came) guest left (memory_by pieces_of (Some at) (left_of_wait kernel kernel.clock wait) guest.memory came) (limited_outcome pieces_of number_of kernel mask guest came)
  some_left at wait (Done found) = limited pieces_of number_of (left_form at) kernel guest (Ok wait) mask (Done found) left
  some_left at wait (Refused error) = limited pieces_of number_of (left_form at) kernel guest (Ok wait) mask (Refused error) left
  some_left at wait (Waits wake) = limited pieces_of number_of (left_form at) kernel guest (Ok wait) mask (Waits wake) left

  timed_is : (place : Option TimePlace) (wait : Option ℕ) (came : Came V)
      → timed place kernel guest.memory wait (stored came)
      ≡ step_of (limited_kernel kernel mask came) guest left (memory_by pieces_of place (left_of_wait kernel kernel.clock wait) guest.memory came) (limited_outcome pieces_of number_of kernel mask guest came)
  timed_is None wait came = untimed came ∙ ap (λ (m : Memory). step_of (limited_kernel kernel mask came) guest left m (limited_outcome pieces_of number_of kernel mask guest came)) (none_left (left_of_wait kernel kernel.clock wait) came)
  timed_is (Some at) wait came = some_left at wait came

module _ (kernel : Kernel) (guest : Guest) (entries : Entries) (limits : Limits) (did : Did Kernel (List PollSet)) (left : List ℕ) where
  abbrev pieces_of : List PollSet → List Piece
  pieces_of events = entry_pieces guest.memory entries.address events

  by_came : (came : Came (List PollSet)) → did ≡ with_came kernel came → limited_by kernel guest entries limits did left
      ≡ step_of (limited_kernel kernel (given_mask limits.own) came) guest left (memory_by pieces_of limits.left (left_of_wait kernel kernel.clock limits.wait) guest.memory came)
      (limited_outcome pieces_of (λ events. count_by is_any events) kernel (given_mask limits.own) guest came)
  by_came came is =
      ap (λ (d : Did Kernel (List PollSet)). limited_by kernel guest entries limits d left) is
      ∙ timed_is pieces_of (λ events. count_by is_any events) kernel guest (given_mask limits.own) left limits.left limits.wait came

  -- an end
  pub ended_step : (ended : Result ℕ Errno) (told : List ℕ) → Ends kernel did entries.count ended told
      → limited_by kernel guest entries limits did left
      ≡ step_of kernel guest left
      (with_left_if limits.left guest.memory (left_of_wait kernel kernel.clock limits.wait) (told_memory ended guest.memory (pieces_told guest.memory entries told)))
      (outcome_by ended guest.memory (pieces_told guest.memory entries told))
  ended_step (Ok number) told is =
      let events = told_all entries.count told in
      by_came (Done events) is.row
      ∙ ap (λ (n : ℕ). step_of kernel guest left
      (with_left_if limits.left guest.memory (left_of_wait kernel kernel.clock limits.wait) (with_pieces guest.memory (pieces_of events)))
      (value_if (all_fit guest.memory (pieces_of events)) n)) (sym is.counted)
  ended_step (Err error) told is = by_came (Refused error) is

  -- a wait
  pub waiting_step : (until : Option ℕ) → did ≡ waits kernel until
      → limited_by kernel guest entries limits did left
      ≡ step_of (masked_kernel kernel (given_mask limits.own)) guest left guest.memory (asleep kernel (wait_of guest.words (record { done = 0; until = until })) (given_mask limits.own))
  waiting_step until is = by_came (Waits (record { done = 0; until = until })) is

-- The time that is left is asked of memory as it was before.

left_alike : (left : Option TimePlace) (before memory other : Memory) (time : Option ℕ) → StoresAlike before memory → with_left_if left memory time other ≡ with_left_if left before time other
left_alike None before memory other time alike = refl
left_alike (Some at) before memory other time alike = sym (left_of_alike (left_form at) before memory other time alike)

told_alike : (ended : Result ℕ Errno) (memory : Memory) (pieces : List Piece) → StoresAlike memory (told_memory ended memory pieces)
told_alike (Ok number) memory pieces = alike_pieces memory pieces
told_alike (Err error) memory pieces = alike_same memory

pub left_stored : (left : Option TimePlace) (ended : Result ℕ Errno) (before between after : Memory) (entries : Entries) (there told : List ℕ) (time : Option ℕ) → there ≡ told
    → between ≡ told_memory ended before (pieces_told before entries there) → after ≡ with_left_if left between time between
    → after ≡ with_left_if left before time (told_memory ended before (pieces_told before entries told))
left_stored left ended before between after entries there told time is put stored =
    let same : between ≡ told_memory ended before (pieces_told before entries told) = put ∙ ap (λ (l : List ℕ). told_memory ended before (pieces_told before entries l)) is in
    stored ∙ left_alike left before between between time (alike_then before (told_memory ended before (pieces_told before entries told)) between (told_alike ended before (pieces_told before entries told)) (alike_is (told_memory ended before (pieces_told before entries told)) between (sym same)))
    ∙ ap (with_left_if left before time) same

-- The call, by what was found and left

pub ended_row : (kernel became : Kernel) (guest : Guest) (entries : Entries) (limits : Limits) (left : List ℕ) (before after : Memory) (ended : Result ℕ Errno) (told : List ℕ) (outcome : Outcome) → guest.memory ≡ before → became ≡ kernel
    → Ends kernel (polling kernel before entries limits) entries.count ended told
    → after ≡ with_left_if limits.left before (left_of_wait kernel kernel.clock limits.wait) (told_memory ended before (pieces_told before entries told))
    → outcome ≡ outcome_by ended before (pieces_told before entries told) → limited_row kernel guest entries limits left ≡ step_of became guest left after outcome
ended_row kernel became guest entries limits left before after ended told outcome same stays ends stored is =
    ended_step kernel guest entries limits (polling kernel guest.memory entries limits) left ended told
    (subst (λ (m : Memory). Ends kernel (polling kernel m entries limits) entries.count ended told) (sym same) ends)
    ∙ (λ i. step_of (sym stays i) guest left
    (with_left_if limits.left (same i) (left_of_wait kernel kernel.clock limits.wait) (told_memory ended (same i) (pieces_told (same i) entries told)))
    (outcome_by ended (same i) (pieces_told (same i) entries told)))
    ∙ (λ i. step_of became guest left (sym stored i) (sym is i))

pub waiting_row : (kernel became : Kernel) (guest : Guest) (entries : Entries) (limits : Limits) (left : List ℕ) (words : CallWords) (before : Memory) (until : Option ℕ) (outcome : Outcome) → guest.words ≡ words → guest.memory ≡ before
    → polling kernel before entries limits ≡ waits kernel until
    → outcome ≡ asleep kernel (wait_of words (record { done = 0; until = until })) (given_mask limits.own) → became ≡ masked_kernel kernel (given_mask limits.own)
    → limited_row kernel guest entries limits left ≡ step_of became guest left guest.memory outcome
waiting_row kernel became guest entries limits left words before until outcome called same row is stays =
    waiting_step kernel guest entries limits (polling kernel guest.memory entries limits) left until (ap (λ (m : Memory). polling kernel m entries limits) same ∙ row)
    ∙ ap (λ (w : CallWords). step_of (masked_kernel kernel (given_mask limits.own)) guest left guest.memory (asleep kernel (wait_of w (record { done = 0; until = until })) (given_mask limits.own))) called
    ∙ (λ i. step_of (sym stays i) guest left guest.memory (sym is i))

-- what was answered, by the end of the call or its wait

pub ends_so : (kernel : Kernel) (wait : Option ℕ) (did : Did Kernel (List PollSet)) (count : ℕ) (came : asking.Came) (entries time : ℕ) (memory : List ℕ) (ended : Result ℕ Errno) → came ≡ Ended ended → Comes kernel wait did count came entries time memory
    → Ends kernel did count ended (told_bytes memory entries count) × ShowsLeft memory time (left_of_wait kernel kernel.clock wait)
ends_so kernel wait did count came entries time memory ended is comes = subst (λ (c : asking.Came). Comes kernel wait did count c entries time memory) is comes

pub waits_so : (kernel : Kernel) (wait : Option ℕ) (did : Did Kernel (List PollSet)) (count : ℕ) (came : asking.Came) (entries time : ℕ) (memory : List ℕ) (until : Option ℕ) → came ≡ cames.Waits until → Comes kernel wait did count came entries time memory
    → did ≡ waits kernel until
waits_so kernel wait did count came entries time memory until is comes = subst (λ (c : asking.Came). Comes kernel wait did count c entries time memory) is comes
