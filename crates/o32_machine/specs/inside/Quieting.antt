-- Turns in which nothing is done but an instruction. (The form is this project's own.)
use Rattle.std.specs.Prelude.{◌≡◌, ℕ, ◌+◌, ◌*◌, ◌<◌, ⊤, Bool, false, ◌&&◌, not, Option, Some, None, is_none}
use Rattle.kernel_model.specs.Clock.{next_time}
use Rattle.o32_turns.specs.Delivering.{next_signal}
use Rattle.o32_turns.specs.Machine.{Machine}
use Rattle.o32_turns.specs.Turn.{next_event, sooner}

-- the time at which an event of the schedule or the timer is due next
abbrev pub next_due : Machine → Option ℕ
next_due machine = sooner (next_event machine.coming) (next_time machine.kernel.timer)

-- a time comes before another, which may not be there
abbrev pub IsBefore : ℕ → Option ℕ → Type 0
IsBefore time None = ⊤
IsBefore time (Some other) = time < other

-- no call waits, no fault is to be delivered, no signal has stopped the process, and none can be delivered
abbrev pub goes : Machine → Bool
goes machine = is_none machine.wait && is_none machine.fault && not machine.stopped && is_none (next_signal machine.kernel.signals)

-- so a turn is an instruction with its call where nothing is due, and so are those that follow it, this many, while only their instructions
-- change the machine
pub record OnlyExecutes (quantum : ℕ) (machine : Machine) (most : ℕ) : Type 0 where
  pub waits : machine.wait ≡ None
  pub faults : machine.fault ≡ None
  pub stops : machine.stopped ≡ false
  pub delivers : next_signal machine.kernel.signals ≡ None
  pub early : IsBefore (machine.kernel.clock + most * quantum) (next_due machine)
