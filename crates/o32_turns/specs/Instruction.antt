-- One instruction of a turn, with its system call (MIPS32 Architecture for Programmers, Volume II, Release 2, for a step of the processor;
-- sigreturn(2), restart_syscall(2), exit(2)). That a fault is delivered in a later turn is this project's own.
use Rattle.std.specs.Prelude.{ℕ, ◌+◌, ◌-◌, ◌==◌, pos, false, List, Option, Some, None, if◌then◌else◌}
use Rattle.std.specs.Int.{w32, cast_signed}
use Rattle.guest_space.specs.Memory.{Memory}
use Rattle.kernel_core.specs.declared.event.Event.TheVariants as events
use Rattle.kernel_core.specs.declared.finish.Finish.TheVariants.{Exited}
use Rattle.kernel_core.specs.declared.signal.Sig.{Sig}
use Rattle.kernel_model.specs.Pipes.{nothing}
use Rattle.kernel_model.specs.Shared.{Info}
use Rattle.mips_exec.specs.Processor.{Processor, register}
use Rattle.mips_exec.specs.Step.{step_of}
use Rattle.mips_exec.specs.declared.execution.Stepped.{Stepped}
use Rattle.mips_exec.specs.declared.execution.Stepped.TheVariants.{Next, Syscall, Fault}
use Rattle.o32_turns.specs.Closing.{restart_number}
use Rattle.o32_turns.specs.Handling.{faults, frame_fault}
use Rattle.o32_turns.specs.Machine.{Machine, Rules, Turn, Within, begin, happens, turn}
use Rattle.o32_model.specs.Step.{Guest, O32Step}
use Rattle.o32_model.specs.Words.{a3, call_words, returned, v0}
use Rattle.o32_model.specs.declared.call_words.CallWords.{CallWords}
use Rattle.o32_model.specs.declared.outcome.Outcome.{Outcome}
use Rattle.o32_model.specs.declared.outcome.Outcome.TheVariants as outcomes
use Rattle.o32_model.specs.declared.wait.Seen.{Seen}
use Rattle.o32_model.specs.declared.wait.Wait.{Wait}

-- Calls

-- what a call finds of the program
abbrev pub guest_of : Processor → Memory → Guest
guest_of processor memory = record { words = call_words processor memory; processor = processor; memory = memory }

-- What it sees of the machine beside that: the time of instructions alone, which is all that the clock did not jump, and which the clocks of CPU
-- time count (clock_gettime(2)); and the wait that could go on.
abbrev pub seen_of : Machine → Seen
seen_of machine = record { quanta = machine.kernel.clock - machine.idle; restart = machine.restart }

-- restart_syscall(2) uses that up
abbrev pub restart_after : ℕ → Option Wait → Option Wait
restart_after number None = None
restart_after number (Some wait) = if number == restart_number then None else Some wait

-- the machine behind a call, whose outcome is not yet in the registers
abbrev pub behind : Machine → CallWords → O32Step → Machine
behind machine words step = record machine {
  processor = step.processor;
  memory = step.memory;
  kernel = step.kernel;
  restart = restart_after words.nr machine.restart;
}

abbrev pub returns_at_once : CallWords → Outcome → Machine → Within
returns_at_once words outcome machine =
    let processor = returned machine.processor outcome in
    happens (begin (record machine { processor = processor })) (events.Call words.nr words.reg (register processor v0) (register processor a3))

-- its outcome is put into the registers, or it waits, or has a fault made of it, or ends the process

abbrev pub after_outcome : CallWords → Machine → Outcome → Within
after_outcome words machine (outcomes.Value value) = returns_at_once words (outcomes.Value value) machine
after_outcome words machine (outcomes.Pair first second) = returns_at_once words (outcomes.Pair first second) machine
after_outcome words machine (outcomes.Error error) = returns_at_once words (outcomes.Error error) machine
after_outcome words machine (outcomes.Sleep wait) =
    happens (begin (record machine { wait = Some wait; interrupted = false })) (events.Wait words.nr words.reg)
after_outcome words machine outcomes.Frame = happens (begin machine) events.Return
after_outcome words machine outcomes.BadFrame = faults frame_fault (begin machine)
after_outcome words machine (outcomes.Exit status) =
    record (happens (begin machine) (events.Exit status)) { over = Some (Exited status) }

abbrev pub after_call : Machine → CallWords → O32Step → Turn
after_call machine words step = turn (after_outcome words (behind machine words step) step.outcome) step.left step.sent

-- the call of the SYSCALL that was just executed
abbrev pub called : Rules → Machine → List ℕ → Turn
called rules machine left =
    let guest = guest_of machine.processor machine.memory in
    after_call machine guest.words (rules.call (seen_of machine) machine.kernel guest left)

-- Instructions

abbrev pub fault_info : Sig → ℕ → ℕ → Info
fault_info signal code address =
    record { sig = signal; code = cast_signed w32 code; errno = pos 0; pid = 0; uid = 0; value = 0; addr = address }

-- what the step of the processor that just left the machine so comes to
abbrev pub after_step : Rules → Machine → Stepped → List ℕ → Turn
after_step rules machine Next left = turn (begin machine) left nothing
after_step rules machine Syscall left = called rules machine left
after_step rules machine (Fault signal code address) left = turn (faults (fault_info signal code address) (begin machine)) left nothing

abbrev pub stepped : Machine → Processor → Memory → Machine
stepped machine processor memory = record machine { processor = processor; memory = memory }

-- the same at this time of the clock, in nanoseconds
abbrev pub at_time : ℕ → Turn → Turn
at_time time turn = record turn { machine = record turn.machine { kernel = record turn.machine.kernel { clock = time } } }

-- one instruction, with its call, which takes a quantum in nanoseconds of the clock
abbrev pub executed : Rules → ℕ → Machine → List ℕ → Turn
executed rules quantum machine left =
    let step = step_of machine.processor machine.memory in
    at_time (machine.kernel.clock + quantum) (after_step rules (stepped machine step.processor step.memory) step.came left)
