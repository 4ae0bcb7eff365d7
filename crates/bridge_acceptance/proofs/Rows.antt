-- The row, by its arguments and by what accepting comes to.
use Rattle.std.proofs.Common.{◌≡◌, ℕ, ◌+◌, ◌*◌, pos, Bool, true, false, ◌||◌, List, [], ◌∷◌, drop, Option, Some, None, Ok, Err, refl, sym, ap, subst, ◌∙◌, if◌then◌else◌}
use Rattle.std.specs.Prelude.{◌==◌, nat_abs, nat_le, int_lt, length, not, option_map, slice_get}
use Rattle.guest_space.specs.Memory.{Memory}
use Rattle.kernel_core.specs.NameCalls.{is_empty_list}
use Rattle.kernel_core.specs.declared.error.Errno.TheVariants.{EAGAIN, EINVAL}
use Rattle.kernel_core.specs.declared.reply.Reply.{Reply}
use Rattle.kernel_core.specs.declared.signal.Sig.{Sig}
use Rattle.kernel_model.specs.Came.{Came, Did, Given, done, given_or_none, refused, refused_if, waits, with_given}
use Rattle.kernel_model.specs.Clock.{capped, checked_or_none, deadline, given_some, is_below, length_of, second, waits_until}
use Rattle.kernel_model.specs.Shared.{Info}
use Rattle.kernel_model.specs.SignalRows.{accept, accept_first, accept_signal, first_pending, pending_at, pends, with_pending, with_signals}
use Rattle.kernel_model.specs.SignalSets.{SignalSet, blockable}
use Rattle.kernel_model.specs.State.{Kernel}
use Rattle.kernel_model.specs.declared.time.TimeSpec.{TimeSpec}
use Rattle.native_calls.specs.SignalBytes as native_bytes
use Rattle.native_calls.specs.Signals.{accepts, native_order, rt_sigtimedwait_row}
use Rattle.native_calls.specs.HostBytes as host
use Rattle.native_calls.specs.Step.{reply_to, told_unless_null}
use Rattle.native_calls.specs.Table.{native_call}
use Rattle.native_calls.specs.Times.{time_at}
use Rattle.number_tables.specs.Signals.{native_signal}
use Rattle.kernel_model.specs.Pipes.{nothing}
use Rattle.o32_calls.specs.Numbers.{rt_sigtimedwait_number}
use Rattle.o32_model.specs.GuestBytes.{is_storable, unless_null, with_stored}
use Rattle.o32_model.specs.Masks.{set_at}
use Rattle.o32_model.specs.Results.{stores_result, stores_result_unless_null, value_if}
use Rattle.o32_model.specs.SignalWaitEnds.{closing, ended_by, finding}
use Rattle.o32_model.specs.Step.{Guest, O32Step, comes_to, value}
use Rattle.o32_model.specs.Suspending as o32
use Rattle.o32_model.specs.Suspending.{accepted_number, all_signals, info_bytes}
use Rattle.o32_model.specs.Table.{call_of, machine_call, seeing_call_of, seeing_step_of}
use Rattle.o32_model.specs.Times.{spec_at}
use Rattle.o32_model.specs.WaitEnds.{ends_with}
use Rattle.o32_model.specs.declared.call_words.CallWords.{CallWords}
use Rattle.o32_model.specs.declared.outcome.Outcome.{Outcome}
use Rattle.o32_model.specs.declared.wait.Close.{Close}
use Rattle.o32_model.specs.Words.{argument}
use Rattle.o32_model.specs.declared.wait.Seen.{Seen}
use Rattle.o32_model.specs.declared.wait.Wait.{Wait}
use Rattle.bridge_signal_state.specs.Passed.{IsLook}
use Rattle.bridge_acceptance.proofs.Naming.{none_natively}
use Rattle.bridge_acceptance.specs.declared.accepting.Accepted.{Accepted}
use Rattle.bridge_acceptance.specs.declared.accepting.Accepted.TheVariants as accepteds
use Rattle.bridge_acceptance.specs.declared.asked.Wanted.{Wanted}
use Rattle.bridge_acceptance.specs.declared.telling.Told.{Told}
use Rattle.bridge_acceptance.specs.declared.telling.Told.TheVariants as tolds
use Rattle.bridge_acceptance.specs.inside.Accepting.{accept_by, acceptance, asked, asked_set, came_of, checked, did, is_timed, met, taken, unmet}
use Rattle.bridge_acceptance.specs.inside.Telling.{Telling, close_of, ended, number_if, outcome_of, stores, telling, tells}

-- By what is asked for

pub accept_law : (kernel : Kernel) (set : Given SignalSet) (time : Option (Given TimeSpec)) (size : ℕ) → accept kernel all_signals blockable set time size ≡ accept_by kernel (asked size set time)
unfolding accept
accept_law kernel set time size = by (size == 16) set time where
  rest : Given SignalSet → Option (Given TimeSpec) → Did Kernel Info
  rest set time =
      with_given kernel set (λ set.
      with_given kernel (checked_or_none length_of time) (λ length.
      accept_signal kernel (first_pending kernel.signals all_signals (blockable set)) (waits_until kernel (deadline kernel length) (refused kernel EAGAIN))))

  by : (b : Bool) (set : Given SignalSet) (time : Option (Given TimeSpec)) → refused_if (not b) EINVAL kernel (rest set time) ≡ accept_by kernel (if not b then Err EINVAL else asked_set set (given_or_none time))
  by false set time = refl
  by true (Err error) time = refl
  by true (Ok set) None = refl
  by true (Ok set) (Some (Err error)) = refl
  by true (Ok set) (Some (Ok time)) = refl

-- A signal that pends

pending_there : (kernel : Kernel) (signal : Sig) → pending_at kernel.signals signal ≡ [] → pends kernel.signals signal ≡ true → false ≡ true
pending_there kernel signal none there = sym (ap (λ (l : List Info). not (is_empty_list l)) none) ∙ there

pub took : (kernel became : Kernel) (signal : Sig) (none : Did Kernel Info) (info : Option Info) → pends kernel.signals signal ≡ true
    → info ≡ slice_get (pending_at kernel.signals signal) 0 → became ≡ with_signals kernel (with_pending kernel.signals signal (drop 1 (pending_at kernel.signals signal)))
    → accept_signal kernel (Some signal) none ≡ did became (taken info)
took kernel became signal none info there told same = by (pending_at kernel.signals signal) refl told same where
  by : (infos : List Info) → pending_at kernel.signals signal ≡ infos → info ≡ slice_get infos 0 → became ≡ with_signals kernel (with_pending kernel.signals signal (drop 1 infos))
      → accept_first kernel signal infos none ≡ did became (taken info)
  by [] at told same = absurd (cc (pending_there kernel signal at there))
  by (first ∷ rest) at told same = λ i. did (sym same i) (taken (sym told i))

-- The time

abbrev is_wrong : TimeSpec → Bool
is_wrong time = int_lt time.seconds (pos 0) || not (is_below time.nanoseconds second)

abbrev length_in : TimeSpec → ℕ
length_in time = nat_abs time.seconds * second + nat_abs time.nanoseconds

abbrev length_if : Bool → ℕ → Given (Option ℕ)
length_if wrong length = given_some (if wrong then Err EINVAL else Ok length)

abbrev met_by : Kernel → Option Sig → Given (Option ℕ) → Did Kernel Info
met_by kernel first length = with_given kernel length (λ length. accept_signal kernel first (unmet kernel length))

pub untimed : (kernel : Kernel) (time : Option TimeSpec) (first : Option Sig) → is_timed time ≡ false → met kernel time first ≡ refused kernel EINVAL
untimed kernel None first is = absurd cc
untimed kernel (Some time) first is = by (is_wrong time) is where
  by : (b : Bool) → not b ≡ false → met_by kernel first (length_if b (length_in time)) ≡ refused kernel EINVAL
  by true e = refl
  by false e = absurd cc

pub timed : (kernel : Kernel) (time : Option TimeSpec) (first : Option Sig) → is_timed time ≡ true → (none : Did Kernel Info) × (met kernel time first ≡ accept_signal kernel first none)
timed kernel None first is = (unmet kernel None, refl)
timed kernel (Some time) first is = by (is_wrong time) is where
  by : (b : Bool) → not b ≡ true → (none : Did Kernel Info) × (met_by kernel first (length_if b (length_in time)) ≡ accept_signal kernel first none)
  by true e = absurd cc
  by false e = (unmet kernel (Some (length_in time)), refl)

-- Where none pends, the native call changes nothing.

abbrev quiet : Kernel → Given (Option ℕ) → Did Kernel Info
quiet kernel length = with_given kernel length (λ length. unmet kernel length)

abbrev until : Kernel → ℕ → ℕ
until kernel length = capped (kernel.clock + length)

abbrev quiet_if : Kernel → Bool → ℕ → Did Kernel Info
quiet_if kernel over time = if over then refused kernel EAGAIN else waits kernel (Some time)

abbrev told_reply : List ℕ → Came Info → Reply
told_reply memory came = reply_to (λ info. told_unless_null memory 0 (native_bytes.info_bytes info) (native_signal info.sig)) came

abbrev pub wait_reply : List ℕ → Kernel → Option TimeSpec → Reply
wait_reply memory kernel time = told_reply memory (quiet kernel (checked time)).came

quiet_look : (kernel : Kernel) (memory left : List ℕ) (length : Given (Option ℕ)) → IsLook kernel (told_reply memory (quiet kernel length).came) memory left (accepts memory 0 (quiet kernel length) left)
quiet_look kernel memory left (Err error) = record { kernel_stays = refl; left_stays = refl; sends = refl; replied = refl; stored = refl }
quiet_look kernel memory left (Ok None) = record { kernel_stays = refl; left_stays = refl; sends = refl; replied = refl; stored = refl }
quiet_look kernel memory left (Ok (Some length)) = by (nat_le (until kernel length) kernel.clock) where
  by : (b : Bool) → IsLook kernel (told_reply memory (quiet_if kernel b (until kernel length)).came) memory left (accepts memory 0 (quiet_if kernel b (until kernel length)) left)
  by true = record { kernel_stays = refl; left_stays = refl; sends = refl; replied = refl; stored = refl }
  by false = record { kernel_stays = refl; left_stays = refl; sends = refl; replied = refl; stored = refl }

checked_law : (time : Option TimeSpec) → checked_or_none length_of (option_map (λ (time : TimeSpec). Ok time) time) ≡ checked time
checked_law None = refl
checked_law (Some time) = refl

native_is : (kernel : Kernel) (found : Given SignalSet) (given : Option (Given TimeSpec)) (set : SignalSet) (time : Option TimeSpec) → found ≡ Ok set → given ≡ option_map (λ (time : TimeSpec). Ok time) time
    → first_pending kernel.signals native_order set ≡ None → accept kernel native_order (λ s. s) found given 16 ≡ quiet kernel (checked time)
unfolding accept
native_is kernel found given set time is at none =
    ap (λ (f : Given SignalSet). accept kernel native_order (λ s. s) f given 16) is
    ∙ ap (λ (g : Option (Given TimeSpec)). accept kernel native_order (λ s. s) (Ok set) g 16) at
    ∙ ap (λ (l : Given (Option ℕ)). met_by kernel (first_pending kernel.signals native_order set) l) (checked_law time)
    ∙ ap (λ (first : Option Sig). met_by kernel first (checked time)) none

pub wait_looks : (kernel : Kernel) (memory left : List ℕ) (place : ℕ) (asked : Wanted) → native_bytes.set_at memory 65536 ≡ Ok (blockable asked.set)
    → host.unless_null place (time_at memory place) ≡ option_map (λ (time : TimeSpec). Ok time) asked.time → first_pending kernel.signals all_signals (blockable asked.set) ≡ None
    → IsLook kernel (wait_reply memory kernel asked.time) memory left (native_call 137 (65536 ∷ 0 ∷ place ∷ 16 ∷ 0 ∷ 0 ∷ []) kernel memory left)
unfolding rt_sigtimedwait_row
wait_looks kernel memory left place asked is at none =
    subst (λ (d : Did Kernel Info). IsLook kernel (wait_reply memory kernel asked.time) memory left (accepts memory 0 d left))
    (sym (native_is kernel (native_bytes.set_at memory 65536) (host.unless_null place (time_at memory place)) (blockable asked.set) asked.time is at (none_natively kernel.signals (blockable asked.set) none)))
    (quiet_look kernel memory left (checked asked.time))

quiet_came : (kernel : Kernel) (memory : List ℕ) (time : Option TimeSpec) → quiet kernel (checked time) ≡ did kernel (came_of (wait_reply memory kernel time))
quiet_came kernel memory None = refl
quiet_came kernel memory (Some time) = by (is_wrong time) where
  over : (b : Bool) (time : ℕ) → quiet_if kernel b time ≡ did kernel (came_of (told_reply memory (quiet_if kernel b time).came))
  over true time = refl
  over false time = refl

  by : (b : Bool) → quiet kernel (length_if b (length_in time)) ≡ did kernel (came_of (told_reply memory (quiet kernel (length_if b (length_in time))).came))
  by true = refl
  by false = over (nat_le (until kernel (length_in time)) kernel.clock) (until kernel (length_in time))

pub waited : (kernel : Kernel) (memory : List ℕ) (asked : Wanted) → first_pending kernel.signals all_signals (blockable asked.set) ≡ None
    → acceptance kernel asked ≡ did kernel (came_of (wait_reply memory kernel asked.time))
waited kernel memory asked none = ap (met kernel asked.time) none ∙ quiet_came kernel memory asked.time

-- What the call comes to

outcome_if : (words : CallWords) (room : Bool) (number : ℕ) → value_if room number ≡ outcome_of words (number_if room number)
outcome_if words true number = refl
outcome_if words false number = refl

told_law : (became : Kernel) (guest : Guest) (info : ℕ) (left : List ℕ) (came : Accepted)
    → stores_result_unless_null info_bytes accepted_number guest info (did became came) left ≡ ended became guest left (tells guest.memory info came)
told_law became guest info left (accepteds.Signal known) = by (info == 0) where
  kept : Outcome → O32Step
  kept outcome = record {
    kernel = became;
    left = left;
    memory = with_stored guest.memory info (info_bytes known);
    processor = guest.processor;
    sent = nothing;
    outcome = outcome;
  }

  by : (b : Bool) → (if b then comes_to (λ found. value (accepted_number found)) guest (done became known) left else stores_result info_bytes accepted_number guest info (done became known) left)
      ≡ ended became guest left (if b then telling (tolds.Number (accepted_number known)) guest.memory else stores guest.memory info (info_bytes known) (accepted_number known))
  by true = refl
  by false = ap kept (outcome_if guest.words (is_storable guest.memory info (length (info_bytes known))) (accepted_number known))
told_law became guest info left (accepteds.Refused error) = by (info == 0) where
  by : (b : Bool) → (if b then comes_to (λ found. value (accepted_number found)) guest (refused became error) left else stores_result info_bytes accepted_number guest info (refused became error) left)
      ≡ ended became guest left (telling (tolds.Refused error) guest.memory)
  by true = refl
  by false = refl
told_law became guest info left (accepteds.Waits until) = by (info == 0) where
  by : (b : Bool) → (if b then comes_to (λ found. value (accepted_number found)) guest (waits became until) left else stores_result info_bytes accepted_number guest info (waits became until) left)
      ≡ ended became guest left (telling (tolds.Waits until) guest.memory)
  by true = refl
  by false = refl

pub row_ended : (kernel became : Kernel) (guest : Guest) (set info time size : ℕ) (left : List ℕ) (came : Accepted)
    → accept kernel all_signals blockable (set_at guest.memory set) (unless_null time (spec_at guest.memory time)) size ≡ did became came
    → o32.rt_sigtimedwait_row kernel guest set info time size left ≡ ended became guest left (tells guest.memory info came)
unfolding o32.rt_sigtimedwait_row
row_ended kernel became guest set info time size left came is =
    ap (λ (d : Did Kernel Info). stores_result_unless_null info_bytes accepted_number guest info d left) is ∙ told_law became guest info left came

-- What a wait is closed by

closed_by : (words : CallWords) (told : Told) → closing (outcome_of words told) ≡ close_of told
closed_by words (tolds.Number number) = refl
closed_by words (tolds.Refused error) = refl
closed_by words (tolds.Waits until) = refl

pub end_closed : (kernel became : Kernel) (wait : Wait) (memory stored : Memory) (set info time size : ℕ) (came : Accepted) (told : Told)
    → accept kernel all_signals blockable (set_at memory set) (unless_null time (spec_at memory time)) size ≡ did became came → tells memory info came ≡ telling told stored
    → ended_by (o32.rt_sigtimedwait_row kernel (finding wait memory) set info time size []) ≡ ends_with (close_of told) became stored
end_closed kernel became wait memory stored set info time size came told is tells_so =
    ap ended_by (row_ended kernel became (finding wait memory) set info time size [] came is)
    ∙ ap (λ (t : Telling). ended_by (ended became (finding wait memory) [] t)) tells_so
    ∙ ap (λ (close : Close). ends_with close became stored) (closed_by (finding wait memory).words told)

-- The call by its number

-- what a machine's call of a number does
abbrev call_at : ℕ → Seen → Kernel → Guest → List ℕ → O32Step
call_at number seen kernel guest left = seeing_step_of (call_of number) (seeing_call_of number) seen kernel guest left

pub called_row : (seen : Seen) (kernel became : Kernel) (guest : Guest) (stored : Memory) (left : List ℕ) (came : Accepted) (told : Told) → guest.words.nr ≡ rt_sigtimedwait_number
    → accept kernel all_signals blockable (set_at guest.memory (argument guest.words 0)) (unless_null (argument guest.words 2) (spec_at guest.memory (argument guest.words 2))) (argument guest.words 3) ≡ did became came
    → tells guest.memory (argument guest.words 1) came ≡ telling told stored → machine_call seen kernel guest left ≡ ended became guest left (telling told stored)
called_row seen kernel became guest stored left came told number is tells_so =
    ap (λ (n : ℕ). call_at n seen kernel guest left) number
    ∙ row_ended kernel became guest (argument guest.words 0) (argument guest.words 1) (argument guest.words 2) (argument guest.words 3) left came is
    ∙ ap (λ (t : Telling). ended became guest left t) tells_so
