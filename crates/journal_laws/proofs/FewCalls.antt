-- No call lets more signals pend than there may.
use Rattle.std.proofs.Common.{ℕ, ◌==◌, Bool, true, false, not, List, [], ◌∷◌, Option, Some, None}
use Rattle.std.specs.Prelude.{⊤, Ok, Err, if◌then◌else◌}
use Rattle.guest_space.specs.Memory.{Memory}
use Rattle.kernel_core.specs.declared.error.Errno.TheVariants.{EINVAL}
use Rattle.kernel_core.specs.declared.request.Request.{Request}
use Rattle.kernel_core.specs.declared.request.Request.TheVariants as requests
use Rattle.kernel_model.specs.Came.{Came, Done, Refused, Waits, Did, Given, done, told_as, told_zero}
use Rattle.kernel_model.specs.Clock.{alarm, checked_or_none, left_of_wait, length_of}
use Rattle.kernel_model.specs.DescriptorRows.{Ends, make_pipe}
use Rattle.kernel_model.specs.Paths.{Base}
use Rattle.kernel_model.specs.Readiness.{masked_wait, select_length}
use Rattle.kernel_model.specs.SignalRows.{pause, suspend, with_mask}
use Rattle.kernel_model.specs.SignalSets.{SignalSet}
use Rattle.kernel_model.specs.State.{Kernel}
use Rattle.kernel_model.specs.Transfers.{write}
use Rattle.kernel_model.specs.Clock.{now}
use Rattle.kernel_model.specs.Whole.{kernel_read, kernel_write, on_files, with_files}
use Rattle.layouts.specs.Frames.{rt_frame_mask, rt_frame_stack, rt_frame_context}
use Rattle.layouts.specs.Number.{bytes_of}
use Rattle.mips_exec.specs.Processor.{register}
use Rattle.o32_model.specs.Transfers.{transfer_calls, pread_row, pwrite_row, read_row, readv_row, write_row, writev_row}
use Rattle.o32_model.specs.Descriptors.{descriptor_calls, close_row, dup2_row, dup3_row, dup_row, fcntl_row, pipe2_row, pipe_row, Command, commanded, kept_if, duplicate_from, get_descriptor_flags, set_descriptor_flags, get_status_flags, set_status_flags_to, pair_size, pipe_flags}
use Rattle.o32_model.specs.Terminal.{terminal_calls, ioctl_row, requested}
use Rattle.o32_model.specs.Small.{small_calls, exit_row, getrandom_row, getrlimit_row, prlimit_row, set_robust_list_row, set_thread_area_row, uname_row, stores_unless_null}
use Rattle.o32_model.specs.Opening.{opening_calls, llseek_row, lseek_row, open_row}
use Rattle.o32_model.specs.Status.{status_calls, fstat64_row, fstat_row, fstatat64_row, stat64_row, stat_row}
use Rattle.o32_model.specs.Entries.{entry_calls, getdents_row}
use Rattle.o32_model.specs.Names.{name_calls, link_row, linkat_row, mkdir_row, readlink_row, remove_row, rename_row, symlink_row}
use Rattle.o32_model.specs.NodeCalls.{node_calls, access_row, chdir_row, chmod_row, fchdir_row, fchmod_row, ftruncate_row, getcwd_row, sync_row, truncate_row, umask_row, utimensat_row}
use Rattle.o32_model.specs.Clocks.{clock_calls, clock_getres_row, gettimeofday_row, time_row, clock_gettime_row}
use Rattle.o32_model.specs.Sleeps.{sleep_calls, alarm_row, clock_nanosleep_row, getitimer_row, nanosleep_row, setitimer_row}
use Rattle.o32_model.specs.Polling.{poll_calls, poll_row, ppoll_row, polled}
use Rattle.o32_model.specs.Selecting.{select_calls, newselect_row, pselect6_row, Asked, OwnMask, mask_at, selected, with_pair}
use Rattle.o32_model.specs.Sending.{sending_calls, kill_row, rt_sigqueueinfo_row, tgkill_row, tkill_row}
use Rattle.o32_model.specs.Actions.{action_calls, rt_sigaction_row, rt_sigpending_row, rt_sigprocmask_row, sigaltstack_row}
use Rattle.o32_model.specs.Suspending.{suspending_calls, pause_row, rt_sigsuspend_row, rt_sigtimedwait_row, accepted_number, info_bytes}
use Rattle.o32_model.specs.Returns.{return_calls, rt_sigreturn_row, sigreturn_row, after_frame, after_rt_frame, kept_stack}
use Rattle.o32_model.specs.Mappings.{map_calls}
use Rattle.o32_model.specs.GuestBytes.{is_storable, unless_null}
use Rattle.o32_model.specs.Masks.{masked, set_at, waiting_with, with_own_mask}
use Rattle.o32_model.specs.Results.{stores_result, stores_result_unless_null}
use Rattle.o32_model.specs.Seeing.{SeeingRow, restart_syscall_row, restarted}
use Rattle.o32_model.specs.Step.{Guest, O32Row, O32Step, comes_to, gives, stores}
use Rattle.o32_model.specs.Table.{call_in, call_of, machine_call, seeing_call_of, seeing_step_of}
use Rattle.o32_model.specs.TimeLeft.{LeftForm, at_end, with_left_of, with_time_left}
use Rattle.o32_model.specs.Times.{spec_at, spec_bytes, val_at, val_bytes}
use Rattle.o32_model.specs.Words.{sp}
use Rattle.o32_model.specs.declared.outcome.Outcome.{Outcome}
use Rattle.o32_model.specs.declared.outcome.Outcome.TheVariants.{Value, Pair, Error, Sleep, Frame, BadFrame, Exit}
use Rattle.o32_model.specs.declared.wait.Seen.{Seen}
use Rattle.o32_model.specs.declared.wait.Wait.{Wait}
use Rattle.signal_frames.specs.Returning.{returned}
use Rattle.journal_laws.proofs.FewRows.{accept_few, clock_few, kill_few, kill_thread_few, kill_thread_of_few, limit_few, mask_few, pending_few, poll_few, queue_few, random_few, read_timer_few, resolution_few, select_few, set_action_few, sigpipe_few, sleep_few, stack_few, suspend_few, timer_few, unless_wrong}
use Rattle.journal_laws.proofs.Pending.{Few}

-- Steps

either_few : (test : Bool) (one other : O32Step) → Few one.kernel → Few other.kernel → Few (if test then one else other).kernel
either_few true one other first second = first
either_few false one other first second = second

null_few : (guest : Guest) (address : ℕ) (did : Did Kernel (List ℕ)) (left : List ℕ) → Few did.state → Few (stores_unless_null guest address did left).kernel
null_few guest address did left few =
    either_few (address == 0) (gives guest (told_as (λ _. 0) did) left) (stores guest address did left) few few

pub result_null_few : {V : Type 0} (bytes_of : V → List ℕ) (number_of : V → ℕ) (guest : Guest) (address : ℕ) (did : Did Kernel V) (left : List ℕ) → Few did.state
    → Few (stores_result_unless_null bytes_of number_of guest address did left).kernel
result_null_few bytes_of number_of guest address did left few =
    either_few (address == 0) (comes_to (λ found. Value (number_of found)) guest did left) (stores_result bytes_of number_of guest address did left) few few

-- Transfers and descriptors

write_few : (kernel : Kernel) → Few kernel → (limit : Option ℕ) (fd : ℕ) (asked : Given ℕ) (bytes : List ℕ) → Few (kernel_write kernel limit fd asked bytes).state.kernel
unfolding kernel_write
write_few kernel few limit fd asked bytes =
    let did = write kernel.files limit (now kernel) fd asked bytes in sigpipe_few (with_files kernel did.state.files) few did.came

pread_few : (kernel : Kernel) (guest : Guest) (fd buffer count : ℕ) (place : Option ℕ) (left : List ℕ) → Few kernel → Few (pread_row kernel guest fd buffer count place left).kernel
unfolding pread_row
pread_few kernel guest fd buffer count None left few = few
pread_few kernel guest fd buffer count (Some place) left few = few

pwrite_few : (kernel : Kernel) (guest : Guest) (fd buffer count : ℕ) (place : Option ℕ) (left : List ℕ) → Few kernel → Few (pwrite_row kernel guest fd buffer count place left).kernel
unfolding pwrite_row
pwrite_few kernel guest fd buffer count None left few = few
pwrite_few kernel guest fd buffer count (Some place) left few = few

kept_few : (room : Bool) (kernel : Kernel) (came : Came Ends) → Few kernel → Few (kept_if room kernel came)
kept_few true kernel (Done ends) few = few
kept_few false kernel (Done ends) few = few
kept_few room kernel (Refused error) few = few
kept_few room kernel (Waits wake) few = few

pipe2_few : (kernel : Kernel) (guest : Guest) (address flags : ℕ) (left : List ℕ) → Few kernel → Few (pipe2_row kernel guest address flags left).kernel
unfolding pipe2_row
pipe2_few kernel guest address flags left few =
    let did = on_files kernel (make_pipe kernel.files (pipe_flags flags)) in
    kept_few (is_storable guest.memory address pair_size) did.state did.came few

command_if : (kernel : Kernel) (fd argument : ℕ) (found : Bool) (command : Command) (otherwise : Option Command) → Few (command.row kernel fd argument).state
    → Few (commanded kernel fd argument otherwise).state → Few (commanded kernel fd argument (if found then Some command else otherwise)).state
command_if kernel fd argument true command otherwise first second = first
command_if kernel fd argument false command otherwise first second = second

fcntl_few : (kernel : Kernel) (guest : Guest) (fd command argument : ℕ) (left : List ℕ) → Few kernel → Few (fcntl_row kernel guest fd command argument left).kernel
unfolding fcntl_row
fcntl_few kernel guest fd command argument left few =
    command_if kernel fd argument (command == 0) (record { number = 0; row = duplicate_from false }) _ few
    (command_if kernel fd argument (command == 1) (record { number = 1; row = get_descriptor_flags }) _ few
    (command_if kernel fd argument (command == 2) (record { number = 2; row = set_descriptor_flags }) _ few
    (command_if kernel fd argument (command == 3) (record { number = 3; row = get_status_flags }) _ few
    (command_if kernel fd argument (command == 4) (record { number = 4; row = set_status_flags_to }) _ few
    (command_if kernel fd argument (command == 1030) (record { number = 1030; row = duplicate_from true }) None few few)))))

requested_few : (kernel : Kernel) (guest : Guest) (fd address : ℕ) (left : List ℕ) → Few kernel → (request : Option Request) → Few (requested kernel guest fd address left request).kernel
requested_few kernel guest fd address left few None = few
requested_few kernel guest fd address left few (Some requests.Tcgets) = few
requested_few kernel guest fd address left few (Some requests.Tcsets) = few
requested_few kernel guest fd address left few (Some requests.Tcsetsw) = few
requested_few kernel guest fd address left few (Some requests.Tcsetsf) = few
requested_few kernel guest fd address left few (Some requests.Tiocgwinsz) = few
requested_few kernel guest fd address left few (Some requests.Fionread) = few
requested_few kernel guest fd address left few (Some requests.Fionbio) = few
requested_few kernel guest fd address left few (Some requests.Fioclex) = few
requested_few kernel guest fd address left few (Some requests.Fionclex) = few

robust_few : (kernel : Kernel) (guest : Guest) (size : ℕ) (left : List ℕ) → Few kernel → Few (set_robust_list_row kernel guest size left).kernel
unfolding set_robust_list_row
robust_few kernel guest size left few = (unless_wrong (not (size == 12)) EINVAL kernel (done kernel 0) few (record { few = few })).few

llseek_few : (kernel : Kernel) (guest : Guest) (fd offset address : ℕ) (origin : Option ℕ) (left : List ℕ) → Few kernel → Few (llseek_row kernel guest fd offset address origin left).kernel
unfolding llseek_row
llseek_few kernel guest fd offset address None left few = few
llseek_few kernel guest fd offset address (Some origin) left few = few

linkat_few : (kernel : Kernel) (guest : Guest) (old_from : Base) (old : ℕ) (new_from : Base) (new : ℕ) (flags : Option ℕ) (left : List ℕ) → Few kernel
    → Few (linkat_row kernel guest old_from old new_from new flags left).kernel
unfolding linkat_row
linkat_few kernel guest old_from old new_from new None left few = few
linkat_few kernel guest old_from old new_from new (Some flags) left few = few

-- Calls that wait with a mask, or with a limit of time

waiting_few : (before : Kernel) (step : O32Step) (wait : Wait) (mask : Option (Given SignalSet)) → Few step.kernel → Few (waiting_with before step wait mask).kernel
waiting_few before step wait None few = few
waiting_few before step wait (Some (Err error)) few = few
waiting_few before step wait (Some (Ok mask)) few = few

masked_few : (before : Kernel) (mask : Option (Given SignalSet)) (step : O32Step) (outcome : Outcome) → Few step.kernel → Few (masked before mask step outcome).kernel
masked_few before mask step (Value value) few = few
masked_few before mask step (Pair first second) few = few
masked_few before mask step (Error error) few = few
masked_few before mask step (Sleep wait) few = waiting_few before step wait mask few
masked_few before mask step Frame few = few
masked_few before mask step BadFrame few = few
masked_few before mask step (Exit status) few = few

end_few : (with_left : Memory → Memory) (step : O32Step) (outcome : Outcome) → Few step.kernel → Few (at_end with_left step outcome).kernel
end_few with_left step (Value value) few = few
end_few with_left step (Pair first second) few = few
end_few with_left step (Error error) few = few
end_few with_left step (Sleep wait) few = few
end_few with_left step Frame few = few
end_few with_left step BadFrame few = few
end_few with_left step (Exit status) few = few

time_left_few : (form : LeftForm) (kernel : Kernel) (before : Memory) (length : Given (Option ℕ)) (step : O32Step) → Few step.kernel → Few (with_time_left form kernel before length step).kernel
time_left_few form kernel before (Err error) step few = few
time_left_few form kernel before (Ok length) step few = end_few (with_left_of form before (left_of_wait kernel kernel.clock length)) step step.outcome few

module _ (guest : Guest) (left : List ℕ) (kernel : Kernel) (few : Few kernel) where
  ppoll_few : (address count time mask : ℕ) (size : Option ℕ) → Few (ppoll_row kernel guest address count time mask size left).kernel
  unfolding ppoll_row
  ppoll_few address count time mask None = few
  ppoll_few address count time mask (Some size) =
      let length = checked_or_none length_of (unless_null time (spec_at guest.memory time)) in
      let own = unless_null mask (set_at guest.memory mask) in
      let step = polled kernel guest address count (masked_wait length size own) left in
      time_left_few (record { address = time; bytes = spec_bytes }) kernel guest.memory length (with_own_mask kernel own step)
      (masked_few kernel own step step.outcome (poll_few kernel few _ _ _).few)

  newselect_few : (asked : Asked) (time : Option ℕ) → Few (newselect_row kernel guest asked time left).kernel
  unfolding newselect_row
  newselect_few asked None = few
  newselect_few asked (Some time) =
      let length = checked_or_none select_length (unless_null time (val_at guest.memory time)) in
      time_left_few (record { address = time; bytes = val_bytes }) kernel guest.memory length (selected kernel guest asked length left) (select_few kernel few _ _ _).few

  pair_few : (asked : Asked) (time : ℕ) (pair : Given OwnMask) → Few (with_pair kernel guest asked time pair left).kernel
  pair_few asked time (Err error) = few
  pair_few asked time (Ok own) =
      let length = checked_or_none length_of (unless_null time (spec_at guest.memory time)) in
      let step = selected kernel guest asked (masked_wait length own.size own.mask) left in
      time_left_few (record { address = time; bytes = spec_bytes }) kernel guest.memory length (with_own_mask kernel own.mask step)
      (masked_few kernel own.mask step step.outcome (select_few kernel few _ _ _).few)

  pselect6_few : (asked : Asked) (time pair : Option ℕ) → Few (pselect6_row kernel guest asked time pair left).kernel
  unfolding pselect6_row
  pselect6_few asked None pair = few
  pselect6_few asked (Some time) None = few
  pselect6_few asked (Some time) (Some pair) = pair_few asked time (mask_at guest.memory pair)

suspended_few : (kernel : Kernel) (guest : Guest) (address size : ℕ) (left : List ℕ) → Few kernel → Few (rt_sigsuspend_row kernel guest address size left).kernel
unfolding rt_sigsuspend_row
suspended_few kernel guest address size left few =
    let set = set_at guest.memory address in
    let step = gives guest (told_zero (suspend kernel size set)) left in
    masked_few kernel (Some set) step step.outcome (suspend_few kernel few size set).few

frame_few : (kernel : Kernel) (guest : Guest) (bytes : Given (List ℕ)) (left : List ℕ) → Few kernel → Few (after_frame kernel guest bytes left).kernel
frame_few kernel guest (Err error) left few = few
frame_few kernel guest (Ok bytes) left few = few

rt_frame_few : (kernel : Kernel) (guest : Guest) (bytes : Given (List ℕ)) (left : List ℕ) → Few kernel → Few (after_rt_frame kernel guest bytes left).kernel
rt_frame_few kernel guest (Err error) left few = few
rt_frame_few kernel guest (Ok bytes) left few =
    (stack_few (with_mask kernel (rt_frame_mask bytes)) few (Some (register (returned guest.processor (rt_frame_context bytes)) sp)) (Some (Ok (kept_stack (rt_frame_stack bytes))))).few

restarted_few : (kernel : Kernel) (wait : Option Wait) → Few kernel → Few (restarted kernel wait).state
restarted_few kernel None few = few
restarted_few kernel (Some wait) few = few

-- Calls of the table

record CallFew (call : O32Row) : Type 0 where
  few : (kernel : Kernel) (guest : Guest) (left : List ℕ) → Few kernel → Few (call.step kernel guest left).kernel

abbrev CallsFew : List O32Row → Type 0
CallsFew [] = ⊤
CallsFew (call ∷ calls) = CallFew call × CallsFew calls

abbrev FewIfAny : Option O32Row → Type 0
FewIfAny None = ⊤
FewIfAny (Some call) = CallFew call

found_few : (found : Bool) (call : O32Row) (otherwise : Option O32Row) → CallFew call → FewIfAny otherwise → FewIfAny (if found then Some call else otherwise)
found_few true call otherwise few others = few
found_few false call otherwise few others = others

in_few : (calls : List O32Row) (otherwise : Option O32Row) (number : ℕ) → CallsFew calls → FewIfAny otherwise → FewIfAny (call_in calls otherwise number)
in_few [] otherwise number few others = others
in_few (call ∷ calls) otherwise number few others =
    found_few (number == call.number) call (call_in calls otherwise number) few.0 (in_few calls otherwise number few.1 others)

transfers_few : CallsFew transfer_calls
unfolding read_row write_row readv_row writev_row kernel_read
transfers_few = (record { few = λ kernel guest left few. few }, (record { few = λ kernel guest left few. write_few kernel few _ _ _ _ }, (record { few = λ kernel guest left few. few }, (record { few = λ kernel guest left few. write_few kernel few _ _ _ _ }, (record { few = λ kernel guest left few. pread_few kernel guest _ _ _ _ left few }, (record { few = λ kernel guest left few. pwrite_few kernel guest _ _ _ _ left few }, tt))))))

descriptors_few : CallsFew descriptor_calls
unfolding close_row dup_row pipe_row dup2_row dup3_row
descriptors_few = (record { few = λ kernel guest left few. few }, (record { few = λ kernel guest left few. few }, (record { few = λ kernel guest left few. few }, (record { few = λ kernel guest left few. fcntl_few kernel guest _ _ _ left few }, (record { few = λ kernel guest left few. few }, (record { few = λ kernel guest left few. fcntl_few kernel guest _ _ _ left few }, (record { few = λ kernel guest left few. few }, (record { few = λ kernel guest left few. pipe2_few kernel guest _ _ left few }, tt))))))))

terminals_few : CallsFew terminal_calls
unfolding ioctl_row
terminals_few = (record { few = λ kernel guest left few. requested_few kernel guest _ _ left few _ }, tt)

smalls_few : CallsFew small_calls
unfolding exit_row getrlimit_row uname_row set_thread_area_row prlimit_row getrandom_row
smalls_few = (record { few = λ kernel guest left few. few }, (record { few = λ kernel guest left few. few }, (record { few = λ kernel guest left few. few }, (record { few = λ kernel guest left few. few }, (record { few = λ kernel guest left few. few }, (record { few = λ kernel guest left few. few }, (record { few = λ kernel guest left few. few }, (record { few = λ kernel guest left few. (limit_few kernel few _ _ _).few }, (record { few = λ kernel guest left few. few }, (record { few = λ kernel guest left few. few }, (record { few = λ kernel guest left few. few }, (record { few = λ kernel guest left few. few }, (record { few = λ kernel guest left few. few }, (record { few = λ kernel guest left few. few }, (record { few = λ kernel guest left few. few }, (record { few = λ kernel guest left few. robust_few kernel guest _ left few }, (record { few = λ kernel guest left few. null_few guest _ _ left (limit_few kernel few _ _ _).few }, (record { few = λ kernel guest left few. (random_few kernel few _ _ _).few }, tt))))))))))))))))))

openings_few : CallsFew opening_calls
unfolding open_row lseek_row
openings_few = (record { few = λ kernel guest left few. few }, (record { few = λ kernel guest left few. few }, (record { few = λ kernel guest left few. few }, (record { few = λ kernel guest left few. llseek_few kernel guest _ _ _ _ left few }, (record { few = λ kernel guest left few. few }, tt)))))

statuses_few : CallsFew status_calls
unfolding stat_row fstat_row stat64_row fstat64_row fstatat64_row
statuses_few = (record { few = λ kernel guest left few. few }, (record { few = λ kernel guest left few. few }, (record { few = λ kernel guest left few. few }, (record { few = λ kernel guest left few. few }, (record { few = λ kernel guest left few. few }, (record { few = λ kernel guest left few. few }, (record { few = λ kernel guest left few. few }, tt)))))))

entries_few : CallsFew entry_calls
unfolding getdents_row
entries_few = (record { few = λ kernel guest left few. few }, (record { few = λ kernel guest left few. few }, tt))

names_few : CallsFew name_calls
unfolding link_row remove_row rename_row mkdir_row symlink_row readlink_row
names_few = (record { few = λ kernel guest left few. few }, (record { few = λ kernel guest left few. few }, (record { few = λ kernel guest left few. few }, (record { few = λ kernel guest left few. few }, (record { few = λ kernel guest left few. few }, (record { few = λ kernel guest left few. few }, (record { few = λ kernel guest left few. few }, (record { few = λ kernel guest left few. few }, (record { few = λ kernel guest left few. few }, (record { few = λ kernel guest left few. few }, (record { few = λ kernel guest left few. linkat_few kernel guest _ _ _ _ _ left few }, (record { few = λ kernel guest left few. few }, (record { few = λ kernel guest left few. few }, tt)))))))))))))

nodes_few : CallsFew node_calls
unfolding chdir_row chmod_row access_row umask_row truncate_row ftruncate_row fchmod_row sync_row fchdir_row getcwd_row utimensat_row
nodes_few = (record { few = λ kernel guest left few. few }, (record { few = λ kernel guest left few. few }, (record { few = λ kernel guest left few. few }, (record { few = λ kernel guest left few. few }, (record { few = λ kernel guest left few. few }, (record { few = λ kernel guest left few. few }, (record { few = λ kernel guest left few. few }, (record { few = λ kernel guest left few. few }, (record { few = λ kernel guest left few. few }, (record { few = λ kernel guest left few. few }, (record { few = λ kernel guest left few. few }, (record { few = λ kernel guest left few. few }, (record { few = λ kernel guest left few. few }, (record { few = λ kernel guest left few. few }, (record { few = λ kernel guest left few. few }, (record { few = λ kernel guest left few. few }, tt))))))))))))))))

clocks_few : CallsFew clock_calls
unfolding time_row gettimeofday_row clock_getres_row
clocks_few = (record { few = λ kernel guest left few. result_null_few (λ seconds. bytes_of true 4 seconds) (λ seconds. seconds) guest _ _ left (clock_few kernel few 0 0).few }, (record { few = λ kernel guest left few. (clock_few kernel few 0 0).few }, (record { few = λ kernel guest left few. null_few guest _ _ left (resolution_few kernel few _).few }, tt)))

sleeps_few : CallsFew sleep_calls
unfolding alarm_row setitimer_row getitimer_row nanosleep_row clock_nanosleep_row alarm
sleeps_few = (record { few = λ kernel guest left few. few }, (record { few = λ kernel guest left few. null_few guest _ _ left (timer_few kernel few _ _).few }, (record { few = λ kernel guest left few. (read_timer_few kernel few _).few }, (record { few = λ kernel guest left few. (sleep_few kernel few _ _ _).few }, (record { few = λ kernel guest left few. (sleep_few kernel few _ _ _).few }, tt)))))

polls_few : CallsFew poll_calls
unfolding poll_row
polls_few = (record { few = λ kernel guest left few. (poll_few kernel few _ _ _).few }, (record { few = λ kernel guest left few. ppoll_few guest left kernel few _ _ _ _ _ }, tt))

selects_few : CallsFew select_calls
selects_few = (record { few = λ kernel guest left few. newselect_few guest left kernel few _ _ }, (record { few = λ kernel guest left few. pselect6_few guest left kernel few _ _ _ }, tt))

sendings_few : CallsFew sending_calls
unfolding kill_row rt_sigqueueinfo_row tkill_row tgkill_row
sendings_few = (record { few = λ kernel guest left few. (kill_few kernel few _ _).few }, (record { few = λ kernel guest left few. (queue_few kernel few _ _ _).few }, (record { few = λ kernel guest left few. (kill_thread_few kernel few _ _).few }, (record { few = λ kernel guest left few. (kill_thread_of_few kernel few _ _ _).few }, tt))))

actions_few : CallsFew action_calls
unfolding rt_sigaction_row rt_sigprocmask_row rt_sigpending_row sigaltstack_row
actions_few = (record { few = λ kernel guest left few. null_few guest _ _ left (set_action_few kernel few _ _ _).few }, (record { few = λ kernel guest left few. null_few guest _ _ left (mask_few kernel few _ _ _).few }, (record { few = λ kernel guest left few. (pending_few kernel few _).few }, (record { few = λ kernel guest left few. null_few guest _ _ left (stack_few kernel few _ _).few }, tt))))

suspendings_few : CallsFew suspending_calls
unfolding pause_row rt_sigtimedwait_row pause
suspendings_few = (record { few = λ kernel guest left few. few }, (record { few = λ kernel guest left few. result_null_few info_bytes accepted_number guest _ _ left (accept_few kernel few _ _ _ _ _).few }, (record { few = λ kernel guest left few. suspended_few kernel guest _ _ left few }, tt)))

returns_few : CallsFew return_calls
unfolding sigreturn_row rt_sigreturn_row
returns_few = (record { few = λ kernel guest left few. frame_few kernel guest _ left few }, (record { few = λ kernel guest left few. rt_frame_few kernel guest _ left few }, tt))

maps_few : CallsFew map_calls
maps_few = (record { few = λ kernel guest left few. few }, (record { few = λ kernel guest left few. few }, (record { few = λ kernel guest left few. few }, (record { few = λ kernel guest left few. few }, (record { few = λ kernel guest left few. few }, (record { few = λ kernel guest left few. few }, (record { few = λ kernel guest left few. few }, (record { few = λ kernel guest left few. few }, tt))))))))

call_few : (number : ℕ) → FewIfAny (call_of number)
call_few number =
    in_few transfer_calls _ number transfers_few
    (in_few descriptor_calls _ number descriptors_few
    (in_few terminal_calls _ number terminals_few
    (in_few small_calls _ number smalls_few
    (in_few opening_calls _ number openings_few
    (in_few status_calls _ number statuses_few
    (in_few entry_calls _ number entries_few
    (in_few name_calls _ number names_few
    (in_few node_calls _ number nodes_few
    (in_few clock_calls _ number clocks_few
    (in_few sleep_calls _ number sleeps_few
    (in_few poll_calls _ number polls_few
    (in_few select_calls _ number selects_few
    (in_few sending_calls _ number sendings_few
    (in_few action_calls _ number actions_few
    (in_few suspending_calls _ number suspendings_few
    (in_few return_calls _ number returns_few
    (in_few map_calls None number maps_few tt)))))))))))))))))

-- Calls that see more

record SeeingFew (call : SeeingRow) : Type 0 where
  few : (seen : Seen) (kernel : Kernel) (guest : Guest) (left : List ℕ) → Few kernel → Few (call.step seen kernel guest left).kernel

abbrev SeeingFewIfAny : Option SeeingRow → Type 0
SeeingFewIfAny None = ⊤
SeeingFewIfAny (Some call) = SeeingFew call

found_seeing : (found : Bool) (call : SeeingRow) (otherwise : Option SeeingRow) → SeeingFew call → SeeingFewIfAny otherwise → SeeingFewIfAny (if found then Some call else otherwise)
found_seeing true call otherwise few others = few
found_seeing false call otherwise few others = others

seeing_few : (number : ℕ) → SeeingFewIfAny (seeing_call_of number)
unfolding clock_gettime_row restart_syscall_row
seeing_few number =
    found_seeing (number == 4263) _ _ (record { few = λ seen kernel guest left few. (clock_few kernel few _ _).few })
    (found_seeing (number == 4253) _ None (record { few = λ seen kernel guest left few. restarted_few kernel seen.restart few }) tt)

-- A call of a machine

machine_by : (call : Option O32Row) (other : Option SeeingRow) → FewIfAny call → SeeingFewIfAny other → (seen : Seen) (kernel : Kernel) (guest : Guest) (left : List ℕ) → Few kernel
    → Few (seeing_step_of call other seen kernel guest left).kernel
machine_by (Some call) other few others seen kernel guest left start = few.few kernel guest left start
machine_by None None few others seen kernel guest left start = start
machine_by None (Some call) few others seen kernel guest left start = others.few seen kernel guest left start

pub machine_few : (seen : Seen) (kernel : Kernel) (guest : Guest) (left : List ℕ) → Few kernel → Few (machine_call seen kernel guest left).kernel
machine_few seen kernel guest left few =
    machine_by (call_of guest.words.nr) (seeing_call_of guest.words.nr) (call_few guest.words.nr) (seeing_few guest.words.nr) seen kernel guest left few
