-- What a process keeps within a turn beside its processor, its memory and its kernel, and what is said of a part of a turn that is carried out.
-- (The forms are this project's own.)
use Rattle.std.specs.Prelude.{◌≡◌, ℕ, Bool, List, Option, Some, Result, OnOk}
use Rattle.guest_space.specs.Memory.{Memory}
use Rattle.kernel_core.specs.declared.core_error.Stop.{Stop}
use Rattle.kernel_core.specs.declared.event.Event.{Event}
use Rattle.kernel_core.specs.declared.finish.Finish.{Finish}
use Rattle.kernel_model.specs.Shared.{Info}
use Rattle.kernel_model.specs.SignalSets.{SignalSet}
use Rattle.kernel_model.specs.State.{Kernel}
use Rattle.mips_exec.specs.Processor.{Processor}
use Rattle.o32_model.specs.declared.wait.Wait.{Wait}
use Rattle.o32_turns.specs.Machine.{Within}
use Rattle.outside.specs.Streams.{Contents}
use Rattle.schedule.specs.declared.events.Due.{Due}

-- The call that waits, and whether a stop interrupted it; the wait that restart_syscall(2) goes on with; whether the process is stopped; the
-- fault that is not yet delivered; the mask that the next handler's frame keeps, where that is not the mask that stands; how the process has
-- ended; and what happened in the turn
pub record Standing : Type 0 where
  pub wait : Option Wait
  pub interrupted : Bool
  pub restart : Option Wait
  pub stopped : Bool
  pub fault : Option Info
  pub saved : Option SignalSet
  pub over : Option Finish
  pub events : List Event

-- what stands within a turn, by that, and by the events of the schedule that are still to come and how many nanoseconds the clock has jumped,
-- which no part of a turn between its first and its fifth step changes
abbrev pub within_of : Standing → Processor → Memory → Kernel → List Due → ℕ → Within
within_of standing processor memory kernel coming idle = record {
  machine = record {
    processor = processor;
    memory = memory;
    kernel = kernel;
    wait = standing.wait;
    interrupted = standing.interrupted;
    restart = standing.restart;
    stopped = standing.stopped;
    fault = standing.fault;
    coming = coming;
    idle = idle;
  };
  events = standing.events;
  saved = standing.saved;
  over = standing.over;
}

-- A part of a turn was carried out: where the input tells what is left of it, what stood within the turn has become what is defined, unless it
-- stopped early; and input and outputs are as they were.
abbrev pub Carries : {A : Type 0} → (Within → Within) → Result A Stop → (List Due → ℕ → Within) → (List Due → ℕ → Within) → Contents → Contents → Type 0
Carries part result before after contents became =
    (left : List ℕ) → contents.left ≡ Some left
    → (became ≡ contents) × OnOk result ((coming : List Due) (idle : ℕ) → after coming idle ≡ part (before coming idle))
