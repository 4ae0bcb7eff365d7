-- How the waits of sleeps, poll and select end (signal(7), 'Interruption of system calls and library functions by signal handlers';
-- nanosleep(2), poll(2), select(2), restart_syscall(2)).
use Rattle.std.specs.Prelude.{ℕ, ◌==◌, Bool, true, ◌&&◌, not, List, [], length, replicate, slice_index, Option, Some, None, if◌then◌else◌}
use Rattle.std.specs.Int.{w32, cast_signed}
use Rattle.guest_space.specs.Bytes.{copied_out}
use Rattle.guest_space.specs.Memory.{Memory}
use Rattle.kernel_core.specs.declared.error.Errno.TheVariants.{EFAULT, EINTR}
use Rattle.kernel_model.specs.Clock.{left_until}
use Rattle.kernel_model.specs.Readiness.{Sets, no_events}
use Rattle.kernel_model.specs.SignalRows.{with_mask}
use Rattle.kernel_model.specs.SignalSets.{SignalSet}
use Rattle.kernel_model.specs.State.{Kernel}
use Rattle.o32_calls.specs.Numbers.{poll_number, select_number, time_number}
use Rattle.o32_calls.specs.declared.times.PollCall.TheVariants.{Poll, Ppoll}
use Rattle.o32_calls.specs.declared.times.SelectCall.TheVariants.{Newselect}
use Rattle.o32_calls.specs.declared.times.TimeCall.TheVariants.{Nanosleep, ClockNanosleep}
use Rattle.o32_model.specs.GuestBytes.{is_storable, with_stored}
use Rattle.o32_model.specs.Polling.{entry_pieces}
use Rattle.o32_model.specs.Results.{Piece, all_fit, with_pieces}
use Rattle.o32_model.specs.Selecting.{Asked, sets_pieces}
use Rattle.o32_model.specs.TimeLeft.{LeftForm}
use Rattle.o32_model.specs.Times.{spec_bytes, val_bytes}
use Rattle.o32_model.specs.declared.wait.Cause.{Cause}
use Rattle.o32_model.specs.declared.wait.Cause.TheVariants.{Due, Accepted, Handler, Stopped}
use Rattle.o32_model.specs.declared.wait.Close.{Close}
use Rattle.o32_model.specs.declared.wait.Close.TheVariants as closes
use Rattle.o32_model.specs.declared.wait.Wait.{Wait}

-- What an end comes to, and what it leaves. (That a stop and a continue end some waits is this project's own.)
pub record WaitEnd : Type 0 where
  pub close : Close
  pub kernel : Kernel
  pub memory : Memory

abbrev pub ends_with : Close → Kernel → Memory → WaitEnd
ends_with close kernel memory = record { close = close; kernel = kernel; memory = memory }

abbrev pub interrupted : Kernel → Memory → WaitEnd
interrupted kernel memory = ends_with (closes.Error EINTR) kernel memory

abbrev pub wait_word : Wait → ℕ → ℕ
wait_word wait place = slice_index wait.words place

-- Where the call has a mask of its own, the one before it is put back, but not where a handler ends the wait: then the handler's frame keeps
-- the mask that is put back. As any mask that is set it loses KILL and STOP.
abbrev pub with_old_mask : Option SignalSet → Kernel → Kernel
with_old_mask None kernel = kernel
with_old_mask (Some mask) kernel = with_mask kernel mask

-- Sleeps

-- whether a sleep is by a length of time, and where what is left of that is stored
pub record Sleeping : Type 0 where
  pub relative : Bool
  pub address : ℕ

-- what is left of the time is stored, and is EFAULT where it can't be
abbrev pub interrupted_storing : ℕ → List ℕ → Kernel → Memory → WaitEnd
interrupted_storing address bytes kernel memory =
    if is_storable memory address (length bytes) then interrupted kernel (with_stored memory address bytes)
    else ends_with (closes.Error EFAULT) kernel memory

abbrev pub sleep_interrupted : Sleeping → Wait → ℕ → Kernel → Memory → WaitEnd
sleep_interrupted sleeping wait clock kernel memory =
    if sleeping.relative && not (sleeping.address == 0)
    then interrupted_storing sleeping.address (spec_bytes (left_until clock wait.deadline)) kernel memory
    else interrupted kernel memory

-- one that goes on keeps its deadline, by restart_syscall(2) or because it is a time of the clock
abbrev pub sleep_ended : Sleeping → Wait → Cause → ℕ → Kernel → Memory → WaitEnd
sleep_ended sleeping wait Due clock kernel memory = ends_with (closes.Value 0) kernel memory
sleep_ended sleeping wait Accepted clock kernel memory = ends_with (closes.Value 0) kernel memory
sleep_ended sleeping wait Handler clock kernel memory = sleep_interrupted sleeping wait clock kernel memory
sleep_ended sleeping wait Stopped clock kernel memory = ends_with (if sleeping.relative then closes.Restart else closes.Again) kernel memory

-- Ends that store what a call tells

abbrev pub told : List Piece → Kernel → Memory → WaitEnd
told pieces kernel memory =
    ends_with (if all_fit memory pieces then closes.Value 0 else closes.Error EFAULT) kernel (with_pieces memory pieces)

-- poll(2): of no entry anything is told
abbrev pub entries_told : Wait → Memory → List Piece
entries_told wait memory = entry_pieces memory (wait_word wait 0) (replicate (wait_word wait 1) no_events)

abbrev pub poll_ended : Wait → Cause → Kernel → Memory → WaitEnd
poll_ended wait Due kernel memory = told (entries_told wait memory) kernel memory
poll_ended wait Accepted kernel memory = told (entries_told wait memory) kernel memory
poll_ended wait Handler kernel memory = interrupted kernel memory
poll_ended wait Stopped kernel memory = ends_with closes.Restart kernel memory

-- ppoll(2), select(2), pselect(2): what is left of the time is stored at every end, where it can be

abbrev pub has_time : LeftForm → Bool
has_time form = not (form.address == 0)

abbrev pub left_bytes : LeftForm → Wait → ℕ → List ℕ
left_bytes form wait clock = form.bytes (left_until clock wait.deadline)

abbrev pub has_room : LeftForm → Wait → ℕ → Memory → Bool
has_room form wait clock memory = is_storable memory form.address (length (left_bytes form wait clock))

-- whether it can be stored is asked of memory as it was before the end
abbrev pub with_left : LeftForm → Wait → ℕ → Memory → WaitEnd → WaitEnd
with_left form wait clock before ended =
    if has_time form && has_room form wait clock before
    then record ended { memory = copied_out ended.memory form.address (left_bytes form wait clock) }
    else ended

-- One that would be carried out again takes the time that is left, so where that can't be stored it is EINTR.
abbrev pub again_or_interrupted : LeftForm → Wait → ℕ → Memory → Close
again_or_interrupted form wait clock memory =
    if has_time form && not (has_room form wait clock memory) then closes.Error EINTR else closes.Again

-- `pieces` are what is stored where the time is over
abbrev pub limited_ended : LeftForm → List Piece → Wait → Cause → ℕ → Kernel → Memory → WaitEnd
limited_ended form pieces wait Due clock kernel memory =
    with_left form wait clock memory (told pieces (with_old_mask wait.mask kernel) memory)
limited_ended form pieces wait Accepted clock kernel memory =
    with_left form wait clock memory (told pieces (with_old_mask wait.mask kernel) memory)
limited_ended form pieces wait Handler clock kernel memory = with_left form wait clock memory (interrupted kernel memory)
limited_ended form pieces wait Stopped clock kernel memory =
    with_left form wait clock memory (ends_with (again_or_interrupted form wait clock memory) (with_old_mask wait.mask kernel) memory)

-- select(2): no set has a descriptor

abbrev pub no_sets : Sets
no_sets = record { read = []; write = []; except = [] }

abbrev pub asked_by : Wait → Asked
asked_by wait = record {
  count = cast_signed w32 (wait_word wait 0);
  read = wait_word wait 1;
  write = wait_word wait 2;
  except = wait_word wait 3;
}

abbrev pub sets_told : Wait → List Piece
sets_told wait = sets_pieces (asked_by wait) no_sets

-- The calls by their numbers, with where their words say that a time stands

abbrev pub wait_ended : Wait → Cause → ℕ → Kernel → Memory → WaitEnd
wait_ended wait cause clock kernel memory =
    if wait.nr == time_number Nanosleep then sleep_ended (record { relative = true; address = wait_word wait 1 }) wait cause clock kernel memory
    else (if wait.nr == time_number ClockNanosleep
    then sleep_ended (record { relative = wait_word wait 1 == 0; address = wait_word wait 3 }) wait cause clock kernel memory
    else (if wait.nr == poll_number Poll then poll_ended wait cause kernel memory
    else (if wait.nr == poll_number Ppoll
    then limited_ended (record { address = wait_word wait 2; bytes = spec_bytes }) (entries_told wait memory) wait cause clock kernel memory
    else (if wait.nr == select_number Newselect
    then limited_ended (record { address = wait_word wait 4; bytes = val_bytes }) (sets_told wait) wait cause clock kernel memory
    else limited_ended (record { address = wait_word wait 4; bytes = spec_bytes }) (sets_told wait) wait cause clock kernel memory))))
