-- No call sets a delay slot or what LL linked.
use Rattle.std.proofs.Common.{◌≡◌, ℕ, ◌==◌, Bool, true, false, List, [], ◌∷◌, Option, Some, None, refl}
use Rattle.std.specs.Prelude.{⊤, Ok, Err, if◌then◌else◌}
use Rattle.guest_space.specs.Memory.{Memory}
use Rattle.kernel_core.specs.declared.request.Request.{Request}
use Rattle.kernel_core.specs.declared.request.Request.TheVariants as requests
use Rattle.kernel_model.specs.Came.{Did, Given, told_as, told_zero}
use Rattle.kernel_model.specs.Clock.{checked_or_none, left_of_wait, length_of}
use Rattle.kernel_model.specs.Readiness.{masked_wait, select_length}
use Rattle.kernel_model.specs.SignalRows.{suspend}
use Rattle.kernel_model.specs.SignalSets.{SignalSet}
use Rattle.kernel_model.specs.State.{Kernel}
use Rattle.layouts.specs.Number.{bytes_of}
use Rattle.mips_exec.specs.Processor.{Processor}
use Rattle.o32_model.specs.Transfers.{transfer_calls, pread_row, pwrite_row, read_row, readv_row, write_row, writev_row}
use Rattle.o32_model.specs.Descriptors.{descriptor_calls, close_row, dup2_row, dup3_row, dup_row, fcntl_row, pipe2_row, pipe_row}
use Rattle.o32_model.specs.Terminal.{terminal_calls, ioctl_row, requested}
use Rattle.o32_model.specs.Small.{small_calls, stores_unless_null, exit_row, getrandom_row, getrlimit_row, prlimit_row, set_robust_list_row, set_thread_area_row, uname_row}
use Rattle.o32_model.specs.Opening.{opening_calls, llseek_row, lseek_row, open_row}
use Rattle.o32_model.specs.Status.{status_calls, fstat64_row, fstat_row, fstatat64_row, stat64_row, stat_row}
use Rattle.o32_model.specs.Entries.{entry_calls, getdents_row}
use Rattle.o32_model.specs.Names.{name_calls, link_row, linkat_row, mkdir_row, readlink_row, remove_row, rename_row, symlink_row}
use Rattle.o32_model.specs.NodeCalls.{node_calls, access_row, chdir_row, chmod_row, fchdir_row, fchmod_row, ftruncate_row, getcwd_row, sync_row, truncate_row, umask_row, utimensat_row}
use Rattle.o32_model.specs.Clocks.{clock_calls, clock_getres_row, clock_gettime_row, gettimeofday_row, time_row}
use Rattle.o32_model.specs.Sleeps.{sleep_calls, alarm_row, clock_nanosleep_row, getitimer_row, nanosleep_row, setitimer_row}
use Rattle.o32_model.specs.Polling.{poll_calls, poll_row, polled, ppoll_row, ppolled}
use Rattle.o32_model.specs.Selecting.{select_calls, Asked, OwnMask, mask_at, newselect_row, pselect6_row, pselected, selected, with_pair}
use Rattle.o32_model.specs.Sending.{sending_calls, kill_row, rt_sigqueueinfo_row, tgkill_row, tkill_row}
use Rattle.o32_model.specs.Actions.{action_calls, rt_sigaction_row, rt_sigpending_row, rt_sigprocmask_row, sigaltstack_row}
use Rattle.o32_model.specs.Suspending.{suspending_calls, accepted_number, info_bytes, pause_row, rt_sigsuspend_row, rt_sigtimedwait_row}
use Rattle.o32_model.specs.Returns.{return_calls, after_frame, after_rt_frame, rt_sigreturn_row, sigreturn_row}
use Rattle.o32_model.specs.Mappings.{map_calls}
use Rattle.o32_model.specs.GuestBytes.{unless_null}
use Rattle.o32_model.specs.Masks.{masked, set_at, waiting_with, with_own_mask}
use Rattle.o32_model.specs.Results.{stores_result, stores_result_unless_null}
use Rattle.o32_model.specs.Seeing.{SeeingRow, restart_syscall_row}
use Rattle.o32_model.specs.Step.{Guest, O32Row, O32Step, comes_to, gives, stores}
use Rattle.o32_model.specs.Table.{call_in, call_of, machine_call, seeing_call_of, seeing_step_of}
use Rattle.o32_model.specs.TimeLeft.{LeftForm, at_end, with_left_of, with_time_left}
use Rattle.o32_model.specs.Times.{spec_at, spec_bytes, val_at, val_bytes}
use Rattle.o32_model.specs.declared.outcome.Outcome.{Outcome}
use Rattle.o32_model.specs.declared.outcome.Outcome.TheVariants.{Value, Pair, Error, Sleep, Frame, BadFrame, Exit}
use Rattle.o32_model.specs.declared.wait.Seen.{Seen}
use Rattle.o32_model.specs.declared.wait.Wait.{Wait}

pub record Keeps (guest : Guest) (processor : Processor) : Type 0 where
  pub slot : processor.slot ≡ guest.processor.slot
  pub link : processor.link ≡ guest.processor.link

same : (guest : Guest) → Keeps guest guest.processor
same guest = record { slot = refl; link = refl }

-- Steps

either_keeps : (test : Bool) (guest : Guest) (one other : O32Step) → Keeps guest one.processor → Keeps guest other.processor
    → Keeps guest (if test then one else other).processor
either_keeps true guest one other first second = first
either_keeps false guest one other first second = second

null_keeps : (guest : Guest) (address : ℕ) (did : Did Kernel (List ℕ)) (left : List ℕ) → Keeps guest (stores_unless_null guest address did left).processor
null_keeps guest address did left =
    either_keeps (address == 0) guest (gives guest (told_as (λ _. 0) did) left) (stores guest address did left) (same guest) (same guest)

result_null_keeps : {V : Type 0} (bytes_of : V → List ℕ) (number_of : V → ℕ) (guest : Guest) (address : ℕ) (did : Did Kernel V) (left : List ℕ)
    → Keeps guest (stores_result_unless_null bytes_of number_of guest address did left).processor
result_null_keeps bytes_of number_of guest address did left =
    either_keeps (address == 0) guest (comes_to (λ found. Value (number_of found)) guest did left) (stores_result bytes_of number_of guest address did left)
    (same guest) (same guest)

requested_keeps : (kernel : Kernel) (guest : Guest) (fd address : ℕ) (left : List ℕ) (request : Option Request)
    → Keeps guest (requested kernel guest fd address left request).processor
requested_keeps kernel guest fd address left None = same guest
requested_keeps kernel guest fd address left (Some requests.Tcgets) = same guest
requested_keeps kernel guest fd address left (Some requests.Tcsets) = same guest
requested_keeps kernel guest fd address left (Some requests.Tcsetsw) = same guest
requested_keeps kernel guest fd address left (Some requests.Tcsetsf) = same guest
requested_keeps kernel guest fd address left (Some requests.Tiocgwinsz) = same guest
requested_keeps kernel guest fd address left (Some requests.Fionread) = same guest
requested_keeps kernel guest fd address left (Some requests.Fionbio) = same guest
requested_keeps kernel guest fd address left (Some requests.Fioclex) = same guest
requested_keeps kernel guest fd address left (Some requests.Fionclex) = same guest

module _ (guest : Guest) where
  waiting_keeps : (before : Kernel) (step : O32Step) (wait : Wait) (mask : Option (Given SignalSet)) → Keeps guest step.processor
      → Keeps guest (waiting_with before step wait mask).processor
  waiting_keeps before step wait None keeps = keeps
  waiting_keeps before step wait (Some (Err error)) keeps = keeps
  waiting_keeps before step wait (Some (Ok mask)) keeps = keeps

  masked_keeps : (before : Kernel) (mask : Option (Given SignalSet)) (step : O32Step) (outcome : Outcome) → Keeps guest step.processor
      → Keeps guest (masked before mask step outcome).processor
  masked_keeps before mask step (Value value) keeps = keeps
  masked_keeps before mask step (Pair first second) keeps = keeps
  masked_keeps before mask step (Error error) keeps = keeps
  masked_keeps before mask step (Sleep wait) keeps = waiting_keeps before step wait mask keeps
  masked_keeps before mask step Frame keeps = keeps
  masked_keeps before mask step BadFrame keeps = keeps
  masked_keeps before mask step (Exit status) keeps = keeps

  end_keeps : (with_left : Memory → Memory) (step : O32Step) (outcome : Outcome) → Keeps guest step.processor → Keeps guest (at_end with_left step outcome).processor
  end_keeps with_left step (Value value) keeps = keeps
  end_keeps with_left step (Pair first second) keeps = keeps
  end_keeps with_left step (Error error) keeps = keeps
  end_keeps with_left step (Sleep wait) keeps = keeps
  end_keeps with_left step Frame keeps = keeps
  end_keeps with_left step BadFrame keeps = keeps
  end_keeps with_left step (Exit status) keeps = keeps

  time_left_keeps : (form : LeftForm) (kernel : Kernel) (before : Memory) (length : Given (Option ℕ)) (step : O32Step) → Keeps guest step.processor
      → Keeps guest (with_time_left form kernel before length step).processor
  time_left_keeps form kernel before (Err error) step keeps = keeps
  time_left_keeps form kernel before (Ok length) step keeps = end_keeps (with_left_of form before (left_of_wait kernel kernel.clock length)) step step.outcome keeps

module _ (guest : Guest) (left : List ℕ) where
  ppolled_keeps : (kernel : Kernel) (address count time : ℕ) (length : Given (Option ℕ)) (size : ℕ) (mask : Option (Given SignalSet))
      → Keeps guest (ppolled kernel guest address count time length size mask left).processor
  ppolled_keeps kernel address count time length size mask =
      let step = polled kernel guest address count (masked_wait length size mask) left in
      time_left_keeps guest (record { address = time; bytes = spec_bytes }) kernel guest.memory length (with_own_mask kernel mask step)
      (masked_keeps guest kernel mask step step.outcome (same guest))

  ppoll_keeps : (kernel : Kernel) (address count time mask : ℕ) (size : Option ℕ) → Keeps guest (ppoll_row kernel guest address count time mask size left).processor
  unfolding ppoll_row
  ppoll_keeps kernel address count time mask None = same guest
  ppoll_keeps kernel address count time mask (Some size) =
      ppolled_keeps kernel address count time (checked_or_none length_of (unless_null time (spec_at guest.memory time))) size (unless_null mask (set_at guest.memory mask))

  newselect_keeps : (kernel : Kernel) (asked : Asked) (time : Option ℕ) → Keeps guest (newselect_row kernel guest asked time left).processor
  unfolding newselect_row
  newselect_keeps kernel asked None = same guest
  newselect_keeps kernel asked (Some time) =
      let length = checked_or_none select_length (unless_null time (val_at guest.memory time)) in
      time_left_keeps guest (record { address = time; bytes = val_bytes }) kernel guest.memory length (selected kernel guest asked length left) (same guest)

  pselected_keeps : (kernel : Kernel) (asked : Asked) (time : ℕ) (length : Given (Option ℕ)) (own : OwnMask)
      → Keeps guest (pselected kernel guest asked time length own left).processor
  pselected_keeps kernel asked time length own =
      let step = selected kernel guest asked (masked_wait length own.size own.mask) left in
      time_left_keeps guest (record { address = time; bytes = spec_bytes }) kernel guest.memory length (with_own_mask kernel own.mask step)
      (masked_keeps guest kernel own.mask step step.outcome (same guest))

  pair_keeps : (kernel : Kernel) (asked : Asked) (time : ℕ) (pair : Given OwnMask) → Keeps guest (with_pair kernel guest asked time pair left).processor
  pair_keeps kernel asked time (Err error) = same guest
  pair_keeps kernel asked time (Ok own) =
      pselected_keeps kernel asked time (checked_or_none length_of (unless_null time (spec_at guest.memory time))) own

  pselect6_keeps : (kernel : Kernel) (asked : Asked) (time pair : Option ℕ) → Keeps guest (pselect6_row kernel guest asked time pair left).processor
  unfolding pselect6_row
  pselect6_keeps kernel asked None pair = same guest
  pselect6_keeps kernel asked (Some time) None = same guest
  pselect6_keeps kernel asked (Some time) (Some pair) = pair_keeps kernel asked time (mask_at guest.memory pair)

suspend_keeps : (kernel : Kernel) (guest : Guest) (address size : ℕ) (left : List ℕ) → Keeps guest (rt_sigsuspend_row kernel guest address size left).processor
unfolding rt_sigsuspend_row
suspend_keeps kernel guest address size left =
    let set = set_at guest.memory address in
    let step = gives guest (told_zero (suspend kernel size set)) left in
    masked_keeps guest kernel (Some set) step step.outcome (same guest)

frame_keeps : (kernel : Kernel) (guest : Guest) (bytes : Given (List ℕ)) (left : List ℕ) → Keeps guest (after_frame kernel guest bytes left).processor
frame_keeps kernel guest (Err error) left = same guest
frame_keeps kernel guest (Ok bytes) left = record { slot = refl; link = refl }

rt_frame_keeps : (kernel : Kernel) (guest : Guest) (bytes : Given (List ℕ)) (left : List ℕ) → Keeps guest (after_rt_frame kernel guest bytes left).processor
rt_frame_keeps kernel guest (Err error) left = same guest
rt_frame_keeps kernel guest (Ok bytes) left = record { slot = refl; link = refl }

-- Calls of the table

record CallKeeps (call : O32Row) : Type 0 where
  keeps : (kernel : Kernel) (guest : Guest) (left : List ℕ) → Keeps guest (call.step kernel guest left).processor

abbrev CallsKeep : List O32Row → Type 0
CallsKeep [] = ⊤
CallsKeep (call ∷ calls) = CallKeeps call × CallsKeep calls

abbrev KeepsIfAny : Option O32Row → Type 0
KeepsIfAny None = ⊤
KeepsIfAny (Some call) = CallKeeps call

found_keeps : (found : Bool) (call : O32Row) (otherwise : Option O32Row) → CallKeeps call → KeepsIfAny otherwise → KeepsIfAny (if found then Some call else otherwise)
found_keeps true call otherwise keeps others = keeps
found_keeps false call otherwise keeps others = others

in_keeps : (calls : List O32Row) (otherwise : Option O32Row) (number : ℕ) → CallsKeep calls → KeepsIfAny otherwise → KeepsIfAny (call_in calls otherwise number)
in_keeps [] otherwise number keeps others = others
in_keeps (call ∷ calls) otherwise number keeps others =
    found_keeps (number == call.number) call (call_in calls otherwise number) keeps.0 (in_keeps calls otherwise number keeps.1 others)

transfers_keep : CallsKeep transfer_calls
unfolding read_row write_row readv_row writev_row pread_row pwrite_row
transfers_keep = (record { keeps = λ kernel guest left. same guest }, (record { keeps = λ kernel guest left. same guest }, (record { keeps = λ kernel guest left. same guest }, (record { keeps = λ kernel guest left. same guest }, (record { keeps = λ kernel guest left. same guest }, (record { keeps = λ kernel guest left. same guest }, tt))))))

descriptors_keep : CallsKeep descriptor_calls
unfolding close_row dup_row pipe_row fcntl_row dup2_row dup3_row pipe2_row
descriptors_keep = (record { keeps = λ kernel guest left. same guest }, (record { keeps = λ kernel guest left. same guest }, (record { keeps = λ kernel guest left. same guest }, (record { keeps = λ kernel guest left. same guest }, (record { keeps = λ kernel guest left. same guest }, (record { keeps = λ kernel guest left. same guest }, (record { keeps = λ kernel guest left. same guest }, (record { keeps = λ kernel guest left. same guest }, tt))))))))

terminals_keep : CallsKeep terminal_calls
unfolding ioctl_row
terminals_keep = (record { keeps = λ kernel guest left. requested_keeps kernel guest _ _ left _ }, tt)

smalls_keep : CallsKeep small_calls
unfolding exit_row getrlimit_row uname_row set_thread_area_row set_robust_list_row prlimit_row getrandom_row
smalls_keep = (record { keeps = λ kernel guest left. same guest }, (record { keeps = λ kernel guest left. same guest }, (record { keeps = λ kernel guest left. same guest }, (record { keeps = λ kernel guest left. same guest }, (record { keeps = λ kernel guest left. same guest }, (record { keeps = λ kernel guest left. same guest }, (record { keeps = λ kernel guest left. same guest }, (record { keeps = λ kernel guest left. same guest }, (record { keeps = λ kernel guest left. same guest }, (record { keeps = λ kernel guest left. same guest }, (record { keeps = λ kernel guest left. same guest }, (record { keeps = λ kernel guest left. same guest }, (record { keeps = λ kernel guest left. same guest }, (record { keeps = λ kernel guest left. same guest }, (record { keeps = λ kernel guest left. record { slot = refl; link = refl } }, (record { keeps = λ kernel guest left. same guest }, (record { keeps = λ kernel guest left. null_keeps guest _ _ left }, (record { keeps = λ kernel guest left. same guest }, tt))))))))))))))))))

openings_keep : CallsKeep opening_calls
unfolding open_row lseek_row llseek_row
openings_keep = (record { keeps = λ kernel guest left. same guest }, (record { keeps = λ kernel guest left. same guest }, (record { keeps = λ kernel guest left. same guest }, (record { keeps = λ kernel guest left. same guest }, (record { keeps = λ kernel guest left. same guest }, tt)))))

statuses_keep : CallsKeep status_calls
unfolding stat_row fstat_row stat64_row fstat64_row fstatat64_row
statuses_keep = (record { keeps = λ kernel guest left. same guest }, (record { keeps = λ kernel guest left. same guest }, (record { keeps = λ kernel guest left. same guest }, (record { keeps = λ kernel guest left. same guest }, (record { keeps = λ kernel guest left. same guest }, (record { keeps = λ kernel guest left. same guest }, (record { keeps = λ kernel guest left. same guest }, tt)))))))

entries_keep : CallsKeep entry_calls
unfolding getdents_row
entries_keep = (record { keeps = λ kernel guest left. same guest }, (record { keeps = λ kernel guest left. same guest }, tt))

names_keep : CallsKeep name_calls
unfolding link_row remove_row rename_row mkdir_row symlink_row readlink_row linkat_row
names_keep = (record { keeps = λ kernel guest left. same guest }, (record { keeps = λ kernel guest left. same guest }, (record { keeps = λ kernel guest left. same guest }, (record { keeps = λ kernel guest left. same guest }, (record { keeps = λ kernel guest left. same guest }, (record { keeps = λ kernel guest left. same guest }, (record { keeps = λ kernel guest left. same guest }, (record { keeps = λ kernel guest left. same guest }, (record { keeps = λ kernel guest left. same guest }, (record { keeps = λ kernel guest left. same guest }, (record { keeps = λ kernel guest left. same guest }, (record { keeps = λ kernel guest left. same guest }, (record { keeps = λ kernel guest left. same guest }, tt)))))))))))))

nodes_keep : CallsKeep node_calls
unfolding chdir_row chmod_row access_row umask_row truncate_row ftruncate_row fchmod_row sync_row fchdir_row getcwd_row utimensat_row
nodes_keep = (record { keeps = λ kernel guest left. same guest }, (record { keeps = λ kernel guest left. same guest }, (record { keeps = λ kernel guest left. same guest }, (record { keeps = λ kernel guest left. same guest }, (record { keeps = λ kernel guest left. same guest }, (record { keeps = λ kernel guest left. same guest }, (record { keeps = λ kernel guest left. same guest }, (record { keeps = λ kernel guest left. same guest }, (record { keeps = λ kernel guest left. same guest }, (record { keeps = λ kernel guest left. same guest }, (record { keeps = λ kernel guest left. same guest }, (record { keeps = λ kernel guest left. same guest }, (record { keeps = λ kernel guest left. same guest }, (record { keeps = λ kernel guest left. same guest }, (record { keeps = λ kernel guest left. same guest }, (record { keeps = λ kernel guest left. same guest }, tt))))))))))))))))

clocks_keep : CallsKeep clock_calls
unfolding time_row gettimeofday_row clock_getres_row
clocks_keep = (record { keeps = λ kernel guest left. result_null_keeps (λ seconds. bytes_of true 4 seconds) (λ seconds. seconds) guest _ _ left }, (record { keeps = λ kernel guest left. same guest }, (record { keeps = λ kernel guest left. null_keeps guest _ _ left }, tt)))

sleeps_keep : CallsKeep sleep_calls
unfolding alarm_row setitimer_row getitimer_row nanosleep_row clock_nanosleep_row
sleeps_keep = (record { keeps = λ kernel guest left. same guest }, (record { keeps = λ kernel guest left. null_keeps guest _ _ left }, (record { keeps = λ kernel guest left. same guest }, (record { keeps = λ kernel guest left. same guest }, (record { keeps = λ kernel guest left. same guest }, tt)))))

polls_keep : CallsKeep poll_calls
unfolding poll_row
polls_keep = (record { keeps = λ kernel guest left. same guest }, (record { keeps = λ kernel guest left. ppoll_keeps guest left kernel _ _ _ _ _ }, tt))

selects_keep : CallsKeep select_calls
selects_keep = (record { keeps = λ kernel guest left. newselect_keeps guest left kernel _ _ }, (record { keeps = λ kernel guest left. pselect6_keeps guest left kernel _ _ _ }, tt))

sendings_keep : CallsKeep sending_calls
unfolding kill_row rt_sigqueueinfo_row tkill_row tgkill_row
sendings_keep = (record { keeps = λ kernel guest left. same guest }, (record { keeps = λ kernel guest left. same guest }, (record { keeps = λ kernel guest left. same guest }, (record { keeps = λ kernel guest left. same guest }, tt))))

actions_keep : CallsKeep action_calls
unfolding rt_sigaction_row rt_sigprocmask_row rt_sigpending_row sigaltstack_row
actions_keep = (record { keeps = λ kernel guest left. null_keeps guest _ _ left }, (record { keeps = λ kernel guest left. null_keeps guest _ _ left }, (record { keeps = λ kernel guest left. same guest }, (record { keeps = λ kernel guest left. null_keeps guest _ _ left }, tt))))

suspendings_keep : CallsKeep suspending_calls
unfolding pause_row rt_sigtimedwait_row
suspendings_keep = (record { keeps = λ kernel guest left. same guest }, (record { keeps = λ kernel guest left. result_null_keeps info_bytes accepted_number guest _ _ left }, (record { keeps = λ kernel guest left. suspend_keeps kernel guest _ _ left }, tt)))

returns_keep : CallsKeep return_calls
unfolding sigreturn_row rt_sigreturn_row
returns_keep = (record { keeps = λ kernel guest left. frame_keeps kernel guest _ left }, (record { keeps = λ kernel guest left. rt_frame_keeps kernel guest _ left }, tt))

maps_keep : CallsKeep map_calls
maps_keep = (record { keeps = λ kernel guest left. same guest }, (record { keeps = λ kernel guest left. same guest }, (record { keeps = λ kernel guest left. same guest }, (record { keeps = λ kernel guest left. same guest }, (record { keeps = λ kernel guest left. same guest }, (record { keeps = λ kernel guest left. same guest }, (record { keeps = λ kernel guest left. same guest }, (record { keeps = λ kernel guest left. same guest }, tt))))))))

call_keeps : (number : ℕ) → KeepsIfAny (call_of number)
call_keeps number =
    in_keeps transfer_calls _ number transfers_keep
    (in_keeps descriptor_calls _ number descriptors_keep
    (in_keeps terminal_calls _ number terminals_keep
    (in_keeps small_calls _ number smalls_keep
    (in_keeps opening_calls _ number openings_keep
    (in_keeps status_calls _ number statuses_keep
    (in_keeps entry_calls _ number entries_keep
    (in_keeps name_calls _ number names_keep
    (in_keeps node_calls _ number nodes_keep
    (in_keeps clock_calls _ number clocks_keep
    (in_keeps sleep_calls _ number sleeps_keep
    (in_keeps poll_calls _ number polls_keep
    (in_keeps select_calls _ number selects_keep
    (in_keeps sending_calls _ number sendings_keep
    (in_keeps action_calls _ number actions_keep
    (in_keeps suspending_calls _ number suspendings_keep
    (in_keeps return_calls _ number returns_keep
    (in_keeps map_calls None number maps_keep tt)))))))))))))))))

-- Calls that see more

record SeeingKeeps (call : SeeingRow) : Type 0 where
  keeps : (seen : Seen) (kernel : Kernel) (guest : Guest) (left : List ℕ) → Keeps guest (call.step seen kernel guest left).processor

abbrev SeeingKeepsIfAny : Option SeeingRow → Type 0
SeeingKeepsIfAny None = ⊤
SeeingKeepsIfAny (Some call) = SeeingKeeps call

found_seeing : (found : Bool) (call : SeeingRow) (otherwise : Option SeeingRow) → SeeingKeeps call → SeeingKeepsIfAny otherwise → SeeingKeepsIfAny (if found then Some call else otherwise)
found_seeing true call otherwise keeps others = keeps
found_seeing false call otherwise keeps others = others

seeing_keeps : (number : ℕ) → SeeingKeepsIfAny (seeing_call_of number)
unfolding clock_gettime_row restart_syscall_row
seeing_keeps number =
    found_seeing (number == 4263) _ _ (record { keeps = λ seen kernel guest left. same guest })
    (found_seeing (number == 4253) _ None (record { keeps = λ seen kernel guest left. same guest }) tt)

-- A call of a machine

machine_by : (call : Option O32Row) (other : Option SeeingRow) → KeepsIfAny call → SeeingKeepsIfAny other → (seen : Seen) (kernel : Kernel) (guest : Guest) (left : List ℕ)
    → Keeps guest (seeing_step_of call other seen kernel guest left).processor
machine_by (Some call) other keeps others seen kernel guest left = keeps.keeps kernel guest left
machine_by None None keeps others seen kernel guest left = same guest
machine_by None (Some call) keeps others seen kernel guest left = others.keeps seen kernel guest left

pub machine_keeps : (seen : Seen) (kernel : Kernel) (guest : Guest) (left : List ℕ) → Keeps guest (machine_call seen kernel guest left).processor
machine_keeps seen kernel guest left =
    machine_by (call_of guest.words.nr) (seeing_call_of guest.words.nr) (call_keeps guest.words.nr) (seeing_keeps guest.words.nr) seen kernel guest left
