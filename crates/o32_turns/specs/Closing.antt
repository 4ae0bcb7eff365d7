-- How a wait ends in the machine: the call returns, or is carried out again, or goes on by restart_syscall (signal(7), 'Interruption of system
-- calls and library functions by signal handlers'; restart_syscall(2); Linux arch/mips/kernel/signal.c for the registers of a call that is
-- carried out again).
use Rattle.std.specs.Prelude.{ℕ, ◌+◌, ◌-◌, ◌%◌, ◌^◌, ◌==◌, Bool, false, List, [], ◌∷◌, Some, None, if◌then◌else◌}
use Rattle.std.specs.List.{list_any}
use Rattle.guest_space.specs.Memory.{Memory}
use Rattle.kernel_core.specs.declared.event.Event.TheVariants as events
use Rattle.kernel_model.specs.State.{Kernel}
use Rattle.mips_exec.specs.Processor.{Processor, register, with_register}
use Rattle.o32_calls.specs.Numbers.{io_number, rt_sigtimedwait_number, signal_number}
use Rattle.o32_calls.specs.declared.descriptors.IoCall.TheVariants.{Read, Write, Readv, Writev}
use Rattle.o32_calls.specs.declared.signals.SignalCall.TheVariants.{Pause, RtSigsuspend, RestartSyscall}
use Rattle.o32_turns.specs.Machine.{Change, Machine}
use Rattle.o32_model.specs.SignalWaitEnds.{signal_wait_ended, transfer_ended}
use Rattle.o32_model.specs.WaitEnds.{WaitEnd, ends_with, wait_ended, wait_word}
use Rattle.o32_model.specs.Words.{a3, returned, v0}
use Rattle.o32_model.specs.declared.outcome.Outcome.{Outcome}
use Rattle.o32_model.specs.declared.outcome.Outcome.TheVariants as outcomes
use Rattle.o32_model.specs.declared.wait.Cause.{Cause}
use Rattle.o32_model.specs.declared.wait.Close.{Close}
use Rattle.o32_model.specs.declared.wait.Close.TheVariants as closes
use Rattle.o32_model.specs.declared.wait.Wait.{Wait}

-- The end of any wait

-- read, write, readv, writev
abbrev pub transfer_waits : List ℕ
transfer_waits = io_number Read ∷ io_number Write ∷ io_number Readv ∷ io_number Writev ∷ []

-- pause, rt_sigtimedwait, rt_sigsuspend
abbrev pub signal_waits : List ℕ
signal_waits = signal_number Pause ∷ rt_sigtimedwait_number ∷ signal_number RtSigsuspend ∷ []

abbrev pub is_one_of : List ℕ → Wait → Bool
is_one_of numbers wait = list_any (λ (number : ℕ). wait.nr == number) numbers

-- by the number of its call; `restarts` says that the action of the handler that ends it restarts calls (SA_RESTART)
abbrev pub whole_end : Bool → Wait → Cause → Kernel → Memory → WaitEnd
whole_end restarts wait cause kernel memory =
    if is_one_of transfer_waits wait then ends_with (transfer_ended restarts wait cause) kernel memory
    else (if is_one_of signal_waits wait then signal_wait_ended wait cause kernel memory
    else wait_ended wait cause kernel.clock kernel memory)

-- What it does to the machine

abbrev pub unwaited : Machine → WaitEnd → Machine
unwaited machine end = record machine { kernel = end.kernel; memory = end.memory; wait = None; interrupted = false }

abbrev pub returns : Outcome → Machine → Change
returns outcome machine =
    let processor = returned machine.processor outcome in
    record { machine = record machine { processor = processor }; events = events.Done (register processor v0) (register processor a3) ∷ [] }

abbrev pub restart_number : ℕ
restart_number = signal_number RestartSyscall

-- the SYSCALL comes again, with this number in $v0, and with the argument in $a3 that was there
abbrev pub put_back : ℕ → Wait → Processor → Processor
put_back number wait processor =
    let numbered = with_register (with_register processor v0 number) a3 (wait_word wait 3) in
    record numbered { pc = (processor.pc + (2 ^ 32 - 4)) % 2 ^ 32 }

abbrev pub comes_again : ℕ → Wait → Machine → Change
comes_again number wait machine =
    record { machine = record machine { processor = put_back number wait machine.processor }; events = events.Restart number ∷ [] }

abbrev pub closed : Wait → Close → Machine → Change
closed wait (closes.Value value) machine = returns (outcomes.Value value) machine
closed wait (closes.Error error) machine = returns (outcomes.Error error) machine
closed wait closes.Again machine = comes_again wait.nr wait machine
closed wait closes.Restart machine = comes_again restart_number wait (record machine { restart = Some wait })

abbrev pub wait_over : Wait → WaitEnd → Machine → Change
wait_over wait end machine = closed wait end.close (unwaited machine end)
