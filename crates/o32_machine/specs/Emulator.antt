-- What an emulator is seen as, and the one that a program begins in. (Turns, quanta and the forms are this project's own.)
use Rattle.std.specs.Prelude.{ℕ, Bool, false, ◌&&◌, ◌||◌, not, List, [], drop, None, is_some}
use Rattle.guest_space.specs.Memory.{Memory}
use Rattle.kernel_core.specs.declared.event.Event.{Event}
use Rattle.kernel_model.specs.State.{Kernel}
use Rattle.mips_exec.specs.Processor.{Processor}
use Rattle.native_log.specs.NativeLog.{NativeLog}
use Rattle.o32_turns.specs.Going.{Standing, within_of}
use Rattle.o32_turns.specs.Machine.{Machine, Within}
use Rattle.schedule.specs.declared.Schedule.{Schedule}
use Rattle.schedule.specs.declared.events.Due.{Due}
use Rattle.turn_records.specs.Keeping.{Records}

-- The machine; how many nanoseconds of its clock a turn with an instruction takes; how many turns there were; whether there is no further
-- one, because the process has ended or is blocked, or a turn stopped early; what happened in the last turn, in order; the native log; and the
-- records that a journal keeps of the last turn
pub record Emulated : Type 0 where
  pub machine : Machine
  pub quantum : ℕ
  pub turns : ℕ
  pub over : Bool
  pub events : List Event
  pub native : NativeLog
  pub records : Records

-- The machine's clock is ahead of the native kernel's, which is moved when a turn has posted what is due: the machine's kernel is the native one
-- at the machine's time.
abbrev pub at_clock : ℕ → Kernel → Kernel
at_clock clock kernel = record kernel { clock = clock }

abbrev pub machine_at : ℕ → Machine → Machine
machine_at clock machine = record machine { kernel = at_clock clock machine.kernel }

-- what a schedule still has to come, from its cursor on
abbrev pub coming_of : Schedule → List Due
coming_of schedule = drop schedule.at schedule.events

-- What a process has.
pub record ProcessState : Type 0 where
  pub processor : Processor
  pub memory : Memory
  pub kernel : Kernel
  pub going : Standing
  pub coming : List Due
  pub idle : ℕ

-- what stands within a turn, by the native kernel as it is, and by it at a time of the clock

abbrev pub within_now : ProcessState → Within
within_now process = within_of process.going process.processor process.memory process.kernel process.coming process.idle

abbrev pub within_at : ℕ → ProcessState → Within
within_at clock process =
    within_of process.going process.processor process.memory (at_clock clock process.kernel) process.coming process.idle

abbrev pub machine_of : ProcessState → Machine
machine_of process = (within_now process).machine

-- a process, and its machine, at the first instruction, before these events

abbrev pub first_standing : Standing
first_standing = record {
  wait = None;
  interrupted = false;
  restart = None;
  stopped = false;
  fault = None;
  saved = None;
  over = None;
  events = [];
}

abbrev pub first_process : Processor → Memory → Kernel → List Due → ProcessState
first_process processor memory kernel coming =
    record { processor = processor; memory = memory; kernel = kernel; going = first_standing; coming = coming; idle = 0 }

abbrev pub first_machine : Processor → Memory → Kernel → List Due → Machine
first_machine processor memory kernel coming = machine_of (first_process processor memory kernel coming)

abbrev pub first_emulated : ℕ → Machine → NativeLog → Records → Emulated
first_emulated quantum machine native records =
    record { machine = machine; quantum = quantum; turns = 0; over = false; events = []; native = native; records = records }

-- the process runs: it is not over, no call waits, and no signal has stopped it
abbrev pub runs : Emulated → Bool
runs emulated = not emulated.over && not (emulated.machine.stopped || is_some emulated.machine.wait)
