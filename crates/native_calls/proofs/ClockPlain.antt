-- The rows on time, signals and readiness that the calls apply: none but sigaltstack(2) is refused with ENOMEM, and none waits with a part done.
use Rattle.std.proofs.Common.{◌==◌, ℕ, Bool, true, false, refl}
use Rattle.std.specs.Prelude.{◌||◌, not, ℤ, pos, int_lt, List, [], ◌∷◌, Option, Some, None, Ok, Err, nat_le, if◌then◌else◌}
use Rattle.kernel_core.specs.declared.error.Errno.TheVariants.{EAGAIN, EINVAL}
use Rattle.kernel_core.specs.declared.mask.MaskChange.{MaskChange}
use Rattle.kernel_core.specs.declared.signal.Sig.{Sig}
use Rattle.kernel_model.specs.Came.{Did, Given, done, given_or_none, refused_if, waits, with_given}
use Rattle.kernel_model.specs.Clock.{TimerSetting, arm_timer, checked_or_none, deadline, given_some, is_below, length_of, length_of_val, read_clock, read_timer, resolution, second, sleep, sleep_end, waits_until}
use Rattle.kernel_model.specs.Readiness.{PollEntry, Sets, mask_error, masked_wait, poll, select}
use Rattle.kernel_model.specs.Shared.{Errno, Info}
use Rattle.kernel_model.specs.SignalRows.{Named, Nothing, Signal, Unlisted, SentInfo, accept, accept_first, accept_signal, change_mask, kill, kill_thread, kill_thread_of, pending, post, queue, send_named, sent_as, set_action, set_action_to, set_size, set_stack, set_stack_to, suspend}
use Rattle.kernel_model.specs.SignalSets.{SignalSet}
use Rattle.kernel_model.specs.State.{Kernel}
use Rattle.kernel_model.specs.declared.signal.Action.{Action}
use Rattle.kernel_model.specs.declared.signal.Post.{Post}
use Rattle.kernel_model.specs.declared.signal.Post.TheVariants as posts
use Rattle.kernel_model.specs.declared.signal.SigStack.{SigStack}
use Rattle.kernel_model.specs.declared.time.TimeSpec.{TimeSpec}
use Rattle.kernel_model.specs.declared.time.TimeVal.{TimeVal}
use Rattle.native_calls.proofs.Leaves.{ComesIdle}
use Rattle.native_calls.proofs.Plain.{FineGiven, FineUnlessNull, Plain, done_plain, err_fine, fine_again, fine_invalid, fine_process, given_plain, if_plain, ok_fine, or_none_fine, plain, refused_plain, some_plain, test_fine}

-- Waits

waits_plain : {S V : Type 0} (state : S) (until : Option ℕ) → Plain {V = V} false (waits state until)
waits_plain state until = record { plain = refl }

until_plain : {V : Type 0} (kernel : Kernel) (until : Option ℕ) (ended : Did Kernel V) → Plain false ended → Plain false (waits_until kernel until ended)
until_plain kernel None ended h = waits_plain kernel None
until_plain {V} kernel (Some until) ended h = by (nat_le until kernel.clock) where
  by : (past : Bool) → Plain {V = V} false (if past then ended else waits kernel (Some until))
  by true = h
  by false = waits_plain kernel (Some until)

-- Times

length_fine : (time : TimeSpec) → FineGiven (length_of time)
length_fine time = test_fine (int_lt time.seconds (pos 0) || not (is_below time.nanoseconds second)) (Err EINVAL) _ (err_fine EINVAL fine_invalid) (ok_fine _)

micro_length_fine : (time : TimeVal) → FineGiven (length_of_val time)
micro_length_fine time = test_fine (int_lt time.seconds (pos 0) || not (is_below time.microseconds 1_000_000)) (Err EINVAL) _ (err_fine EINVAL fine_invalid) (ok_fine _)

some_fine : {A : Type 0} (given : Given A) → FineGiven given → FineGiven (given_some given)
some_fine (Err error) fine = record { fine = fine.fine }
some_fine (Ok value) fine = record { fine = tt }

pub wait_fine : (time : Option (Given TimeSpec)) → FineUnlessNull time → FineGiven (checked_or_none length_of time)
wait_fine None fine = ok_fine None
wait_fine (Some (Err error)) fine = record { fine = fine.fine.fine }
wait_fine (Some (Ok time)) fine = some_fine (length_of time) (length_fine time)

-- The clock

pub read_clock_plain : (kernel : Kernel) (quanta id : ℕ) → Plain false (read_clock kernel quanta id)
unfolding read_clock
read_clock_plain kernel quanta id = search plain depth 14

pub resolution_plain : (kernel : Kernel) (id : ℕ) → Plain false (resolution kernel id)
unfolding resolution
resolution_plain kernel id = search plain depth 14

pub sleep_plain : (kernel : Kernel) (id : ℕ) (absolute : Option Bool) (time : Given TimeSpec) → FineGiven time → Plain false (sleep kernel id absolute time)
unfolding sleep
sleep_plain kernel id absolute time given =
    if_plain false kernel _ EINVAL _ fine_invalid (
    some_plain false kernel EINVAL absolute _ fine_invalid (λ absolute.
    given_plain false kernel time _ given (λ time.
    given_plain false kernel (length_of time) _ (length_fine time) (λ time.
    until_plain kernel (Some (sleep_end kernel id absolute time)) (done kernel tt) (done_plain false kernel tt)))))

pub arm_timer_plain : (kernel : Kernel) (which : ℕ) (setting : Option (Given TimerSetting)) → FineUnlessNull setting → Plain false (arm_timer kernel which setting)
unfolding arm_timer
arm_timer_plain kernel which None fine = search plain depth 14
arm_timer_plain kernel which (Some setting) fine =
    if_plain false kernel _ EINVAL _ fine_invalid (given_plain false kernel setting _ fine.fine (λ setting. search (plain, micro_length_fine) depth 14))

pub read_timer_plain : (kernel : Kernel) (which : ℕ) → Plain false (read_timer kernel which)
unfolding read_timer
read_timer_plain kernel which = search plain depth 14

-- Sending

sent_plain : (kernel : Kernel) (what : Post) → Plain false (sent_as kernel what)
sent_plain kernel posts.Queued = done_plain false kernel tt
sent_plain kernel posts.Dropped = done_plain false kernel tt
sent_plain kernel posts.Full = refused_plain false kernel EAGAIN fine_again

named_plain : (kernel : Kernel) (signal : Named) (info : Sig → Info) → Plain false (send_named kernel signal info)
named_plain kernel Nothing info = done_plain false kernel tt
named_plain kernel (Signal signal) info = sent_plain _ (post kernel.signals (info signal) false).post
named_plain kernel Unlisted info = refused_plain false kernel EINVAL fine_invalid

pub kill_plain : (kernel : Kernel) (pid : ℤ) (signal : Named) → Plain false (kill kernel pid signal)
unfolding kill
kill_plain kernel pid signal = search (plain, named_plain) depth 14

pub kill_thread_plain : (kernel : Kernel) (tid : ℤ) (signal : Named) → Plain false (kill_thread kernel tid signal)
unfolding kill_thread
kill_thread_plain kernel tid signal = search (plain, named_plain) depth 14

pub kill_thread_of_plain : (kernel : Kernel) (pid tid : ℤ) (signal : Named) → Plain false (kill_thread_of kernel pid tid signal)
unfolding kill_thread_of
kill_thread_of_plain kernel pid tid signal = search (plain, named_plain) depth 14

pub queue_plain : (kernel : Kernel) (pid : ℤ) (signal : Named) (sent : Given SentInfo) → FineGiven sent → Plain false (queue kernel pid signal sent)
unfolding queue
queue_plain kernel pid signal sent given =
    if_plain false kernel _ _ _ fine_process (if_plain false kernel _ EINVAL _ fine_invalid (given_plain false kernel sent _ given (λ sent. named_plain kernel signal _)))

-- Actions, the mask and what pends

action_to_plain : (kernel : Kernel) (signal : Sig) (action : Option Action) → Plain false (set_action_to kernel signal action)
action_to_plain kernel signal None = search plain
action_to_plain kernel signal (Some action) = search plain

pub set_action_plain : (kernel : Kernel) (size : ℕ) (signal : Option Sig) (action : Option (Given Action)) → FineUnlessNull action
    → Plain false (set_action kernel size signal action)
unfolding set_action
set_action_plain kernel size signal action fine =
    if_plain false kernel _ EINVAL _ fine_invalid (
    some_plain false kernel EINVAL signal _ fine_invalid (λ signal.
    if_plain false kernel _ EINVAL _ fine_invalid (
    given_plain false kernel _ _ (or_none_fine action fine) (λ action. action_to_plain kernel signal action))))

pub change_mask_plain : (kernel : Kernel) (size : ℕ) (how : Option MaskChange) (set : Option (Given SignalSet)) → FineUnlessNull set
    → Plain false (change_mask kernel size how set)
unfolding change_mask
change_mask_plain kernel size how None fine = search plain depth 14
change_mask_plain kernel size how (Some set) fine =
    if_plain false kernel _ EINVAL _ fine_invalid (
    some_plain false kernel EINVAL how _ fine_invalid (λ how. given_plain false kernel set _ fine.fine (λ set. done_plain false _ _)))

pub pending_plain : (kernel : Kernel) (size : ℕ) → Plain false (pending kernel size)
unfolding pending
pending_plain kernel size = search plain depth 14

first_plain : (kernel : Kernel) (signal : Sig) (infos : List Info) (none : Did Kernel Info) → Plain false none → Plain false (accept_first kernel signal infos none)
first_plain kernel signal [] none h = h
first_plain kernel signal (info ∷ rest) none h = done_plain false _ info

signal_plain : (kernel : Kernel) (signal : Option Sig) (none : Did Kernel Info) → Plain false none → Plain false (accept_signal kernel signal none)
signal_plain kernel None none h = h
signal_plain kernel (Some signal) none h = first_plain kernel signal _ none h

pub accept_plain : (kernel : Kernel) (order : List Sig) (waitable : SignalSet → SignalSet) (set : Given SignalSet) (time : Option (Given TimeSpec)) (size : ℕ)
    → FineGiven set → FineUnlessNull time → Plain false (accept kernel order waitable set time size)
unfolding accept
accept_plain kernel order waitable set time size given fine =
    if_plain false kernel _ EINVAL _ fine_invalid (
    given_plain false kernel set _ given (λ set.
    given_plain false kernel _ _ (wait_fine time fine) (λ length.
    signal_plain kernel _ _ (until_plain kernel (deadline kernel length) _ (refused_plain false kernel EAGAIN fine_again)))))

pub suspend_plain : (kernel : Kernel) (size : ℕ) (set : Given SignalSet) → FineGiven set → Plain false (suspend kernel size set)
unfolding suspend
suspend_plain kernel size set given =
    if_plain false kernel _ EINVAL _ fine_invalid (given_plain false kernel set _ given (λ _. waits_plain kernel None))

-- The alternate stack

record IsIdle {V : Type 0} (did : Did Kernel V) : Type 0 where
  pub idle : ComesIdle did.came

idle_if : {V : Type 0} (wrong : Bool) (error : Errno) (kernel : Kernel) (rest : Did Kernel V) → IsIdle rest → IsIdle (refused_if wrong error kernel rest)
idle_if true error kernel rest h = record { idle = tt }
idle_if false error kernel rest h = h

idle_done : {V : Type 0} (kernel : Kernel) (value : V) → IsIdle (done kernel value)
idle_done kernel value = record { idle = tt }

stack_to_idle : (kernel : Kernel) (sp : Option ℕ) (stack : Option SigStack) → IsIdle (set_stack_to kernel sp stack)
stack_to_idle kernel sp None = record { idle = tt }
stack_to_idle kernel sp (Some stack) = search (idle_if, idle_done)

given_stack_idle : (kernel : Kernel) (sp : Option ℕ) (stack : Given (Option SigStack)) → IsIdle (with_given kernel stack (set_stack_to kernel sp))
given_stack_idle kernel sp (Err error) = record { idle = tt }
given_stack_idle kernel sp (Ok stack) = stack_to_idle kernel sp stack

pub set_stack_idle : (kernel : Kernel) (sp : Option ℕ) (stack : Option (Given SigStack)) → ComesIdle (set_stack kernel sp stack).came
unfolding set_stack
set_stack_idle kernel sp stack = (given_stack_idle kernel sp (given_or_none stack)).idle

-- Readiness

mask_fine : {A : Type 0} (size : ℕ) (wait : A) (mask : Option (Given SignalSet)) → FineUnlessNull mask → FineGiven (mask_error size (Ok wait) mask)
mask_fine size wait None fine = ok_fine wait
mask_fine size wait (Some (Ok mask)) fine = test_fine (size == set_size) (Ok wait) (Err EINVAL) (ok_fine wait) (err_fine EINVAL fine_invalid)
mask_fine {A} size wait (Some (Err error)) fine = test_fine {A = A} (size == set_size) (Err error) (Err EINVAL) (record { fine = fine.fine.fine }) (err_fine EINVAL fine_invalid)

pub masked_fine : {A : Type 0} (wait : Given A) (size : ℕ) (mask : Option (Given SignalSet)) → FineGiven wait → FineUnlessNull mask → FineGiven (masked_wait wait size mask)
masked_fine (Err error) size mask fine other = record { fine = fine.fine }
masked_fine (Ok wait) size mask fine other = mask_fine size wait mask other

pub poll_plain : (kernel : Kernel) (wait : Given (Option ℕ)) (count : ℕ) (entries : Given (List PollEntry)) → FineGiven wait → FineGiven entries
    → Plain false (poll kernel wait count entries)
unfolding poll
poll_plain kernel wait count entries fine given =
    given_plain false kernel wait _ fine (λ wait.
    if_plain false kernel _ EINVAL _ fine_invalid (
    given_plain false kernel entries _ given (λ entries. search (plain, until_plain) depth 14)))

pub select_plain : (kernel : Kernel) (wait : Given (Option ℕ)) (count : ℤ) (sets : Given Sets) → FineGiven wait → FineGiven sets
    → Plain false (select kernel wait count sets)
unfolding select
select_plain kernel wait count sets fine given =
    given_plain false kernel wait _ fine (λ wait.
    if_plain false kernel _ EINVAL _ fine_invalid (
    given_plain false kernel sets _ given (λ sets. search (plain, until_plain) depth 14)))
