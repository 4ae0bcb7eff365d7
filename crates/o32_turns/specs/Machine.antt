-- The machine of an o32 program over the kernel: what stands between two turns, what stands within one, what one leaves, and what turns are made
-- of. (Turns and the forms are this project's own.)
use Rattle.std.specs.Prelude.{ℕ, Bool, List, [], ◌∷◌, ◌++◌, Option, None}
use Rattle.guest_space.specs.Memory.{Memory}
use Rattle.kernel_core.specs.declared.event.Event.{Event}
use Rattle.kernel_core.specs.declared.finish.Finish.{Finish}
use Rattle.kernel_core.specs.declared.signal.Sig.{Sig}
use Rattle.kernel_model.specs.Pipes.{Sent}
use Rattle.kernel_model.specs.Shared.{Info}
use Rattle.kernel_model.specs.SignalSets.{SignalSet}
use Rattle.kernel_model.specs.State.{Kernel}
use Rattle.mips_exec.specs.Processor.{Processor}
use Rattle.o32_model.specs.Step.{Guest, O32Step}
use Rattle.o32_model.specs.WaitEnds.{WaitEnd}
use Rattle.o32_model.specs.declared.wait.Cause.{Cause}
use Rattle.o32_model.specs.declared.wait.Seen.{Seen}
use Rattle.o32_model.specs.declared.wait.Wait.{Wait}
use Rattle.schedule.specs.declared.events.Due.{Due}

-- The processor with its memory; the kernel; the call that waits, and whether a stop interrupted it; the wait that restart_syscall(2) goes on
-- with; whether the process is stopped; the fault that a turn met and that is not yet delivered; the events of the schedule that are still to
-- come, in their order; and how many nanoseconds its clock has jumped so far while no instruction was executed
pub record Machine : Type 0 where
  pub processor : Processor
  pub memory : Memory
  pub kernel : Kernel
  pub wait : Option Wait
  pub interrupted : Bool
  pub restart : Option Wait
  pub stopped : Bool
  pub fault : Option Info
  pub coming : List Due
  pub idle : ℕ

-- Within a turn: the machine so far; what happened, in order; the mask that the next handler's frame keeps, where that is not the mask that
-- stands; and how the process has ended
pub record Within : Type 0 where
  pub machine : Machine
  pub events : List Event
  pub saved : Option SignalSet
  pub over : Option Finish

abbrev pub begin : Machine → Within
begin machine = record { machine = machine; events = []; saved = None; over = None }

abbrev pub with_machine : Within → Machine → Within
with_machine within machine = record within { machine = machine }

abbrev pub happens : Within → Event → Within
happens within event = record within { events = within.events ++ event ∷ [] }

-- What a part of a turn makes of the machine, and what happened in it
pub record Change : Type 0 where
  pub machine : Machine
  pub events : List Event

abbrev pub no_change : Machine → Change
no_change machine = record { machine = machine; events = [] }

abbrev pub with_change : Within → Change → Within
with_change within change = record within { machine = change.machine; events = within.events ++ change.events }

-- What one turn leaves: the machine, and what is left of the input; what it sends to the outputs; how it ends the process; and what happened
pub record Turn : Type 0 where
  pub machine : Machine
  pub left : List ℕ
  pub sent : Sent
  pub over : Option Finish
  pub events : List Event

abbrev pub turn : Within → List ℕ → Sent → Turn
turn within left sent =
    record { machine = within.machine; left = left; sent = sent; over = within.over; events = within.events }

-- how a wait ends for a cause, where the action of a handler that ends it restarts calls or not
abbrev pub Ends : Type 0
Ends = Bool → Wait → Cause → Kernel → Memory → WaitEnd

-- What turns are made of: what a call does; which signals a call waits for; how a wait ends; and what is delivered
pub record Rules : Type 0 where
  pub call : Seen → Kernel → Guest → List ℕ → O32Step
  pub awaited : Machine → List Sig
  pub ended : Ends
  pub deliver : Within → Within
