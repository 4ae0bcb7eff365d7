-- How the waits for signals and the waits of transfers end (signal(7), 'Interruption of system calls and library functions by signal
-- handlers'; rt_sigtimedwait(2), sigsuspend(2), pause(2)).
use Rattle.std.specs.Prelude.{◌==◌, Bool, List, [], take, Ok, Err, if◌then◌else◌}
use Rattle.std.specs.List.{filter}
use Rattle.guest_space.specs.Memory.{Memory}
use Rattle.kernel_core.specs.declared.error.Errno.TheVariants.{EAGAIN, EINTR}
use Rattle.kernel_core.specs.declared.signal.Sig.{Sig}
use Rattle.kernel_model.specs.Came.{Given}
use Rattle.kernel_model.specs.SignalSets.{SignalSet, blockable, has}
use Rattle.kernel_model.specs.State.{Kernel}
use Rattle.mips_exec.specs.Processor.{fresh}
use Rattle.o32_calls.specs.Numbers.{rt_sigtimedwait_number}
use Rattle.o32_model.specs.Masks.{set_at}
use Rattle.o32_model.specs.Step.{Guest, O32Step}
use Rattle.o32_model.specs.Suspending.{all_signals, rt_sigtimedwait_row}
use Rattle.o32_model.specs.WaitEnds.{WaitEnd, ends_with, interrupted, with_old_mask, wait_word}
use Rattle.o32_model.specs.declared.outcome.Outcome.{Outcome}
use Rattle.o32_model.specs.declared.outcome.Outcome.TheVariants as outcomes
use Rattle.o32_model.specs.declared.wait.Cause.{Cause}
use Rattle.o32_model.specs.declared.wait.Cause.TheVariants.{Due, Accepted, Handler, Stopped}
use Rattle.o32_model.specs.declared.wait.Close.{Close}
use Rattle.o32_model.specs.declared.wait.Close.TheVariants as closes
use Rattle.o32_model.specs.declared.wait.Wait.{Wait}

-- pause(2) and sigsuspend(2), which have no deadline
abbrev pub suspension_ended : Wait → Cause → Kernel → Memory → WaitEnd
suspension_ended wait Due kernel memory = interrupted (with_old_mask wait.mask kernel) memory
suspension_ended wait Accepted kernel memory = interrupted (with_old_mask wait.mask kernel) memory
suspension_ended wait Handler kernel memory = interrupted kernel memory
suspension_ended wait Stopped kernel memory = ends_with closes.Again (with_old_mask wait.mask kernel) memory

-- rt_sigtimedwait(2): what the call comes to now that a signal pends. It finds its words and memory as they were.

abbrev pub closing : Outcome → Close
closing (outcomes.Value value) = closes.Value value
closing (outcomes.Pair first second) = closes.Value first
closing (outcomes.Error error) = closes.Error error
closing (outcomes.Sleep wait) = closes.Again
closing outcomes.Frame = closes.Again
closing outcomes.BadFrame = closes.Again
closing (outcomes.Exit status) = closes.Again

abbrev pub ended_by : O32Step → WaitEnd
ended_by step = ends_with (closing step.outcome) step.kernel step.memory

-- what the call finds of the program: the processor and words on the stack are not looked at
abbrev pub finding : Wait → Memory → Guest
finding wait memory = record { words = record { nr = wait.nr; reg = take 4 wait.words; stack = [] }; processor = fresh 0; memory = memory }

-- the signals that it waits for, by rising numbers; none where they can't be read

abbrev pub named_in : Given SignalSet → List Sig
named_in (Err error) = []
named_in (Ok set) = filter (λ (signal : Sig). has (blockable set) signal) all_signals

abbrev pub named_signals : Memory → Wait → List Sig
named_signals memory wait = if wait.nr == rt_sigtimedwait_number then named_in (set_at memory (wait_word wait 0)) else []

abbrev pub acceptance_ended : Wait → Cause → Kernel → Memory → WaitEnd
acceptance_ended wait Due kernel memory = ends_with (closes.Error EAGAIN) kernel memory
acceptance_ended wait Accepted kernel memory =
    ended_by (rt_sigtimedwait_row kernel (finding wait memory) (wait_word wait 0) (wait_word wait 1) (wait_word wait 2) (wait_word wait 3) [])
acceptance_ended wait Handler kernel memory = interrupted kernel memory
acceptance_ended wait Stopped kernel memory = interrupted kernel memory

abbrev pub signal_wait_ended : Wait → Cause → Kernel → Memory → WaitEnd
signal_wait_ended wait cause kernel memory =
    if wait.nr == rt_sigtimedwait_number then acceptance_ended wait cause kernel memory else suspension_ended wait cause kernel memory

-- A read or write of a pipe: bytes that were put already are the result. Without any a handler ends it, unless its action restarts calls
-- (SA_RESTART of sigaction(2)), and a stop has it carried out again. It has no deadline.

abbrev pub idle_transfer_ended : Bool → Cause → Close
idle_transfer_ended restarts Due = closes.Again
idle_transfer_ended restarts Accepted = closes.Again
idle_transfer_ended restarts Handler = if restarts then closes.Again else closes.Error EINTR
idle_transfer_ended restarts Stopped = closes.Again

abbrev pub transfer_ended : Bool → Wait → Cause → Close
transfer_ended restarts wait cause = if wait.done == 0 then idle_transfer_ended restarts cause else closes.Value wait.done
