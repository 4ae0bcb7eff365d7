-- What is said of turns that are taken at once: quiet ones, and one more behind them. (The form is this project's own.)
use Rattle.std.specs.Prelude.{◌≡◌, ℕ, ◌+◌, ◌<◌, ◌≤◌, List, [], None, Result}
use Rattle.kernel_core.specs.declared.core_error.Stop.{Stop}
use Rattle.kernel_core.specs.declared.event.Event.{Event}
use Rattle.kernel_model.specs.Pipes.{nothing}
use Rattle.kernel_model.specs.State.{Kernel}
use Rattle.o32_machine.specs.Answered.{IsTurn, turns_done}
use Rattle.o32_machine.specs.Emulator.{at_clock}
use Rattle.o32_machine.specs.declared.turn.Turn as code
use Rattle.o32_turns.specs.Machine.{Machine}
use Rattle.o32_turns.specs.Runs.{IsRunningAt, Reached, attempt, reached}
use Rattle.o32_turns.specs.Turn.{turn_of}
use Rattle.outside.specs.Streams.{Contents}
use Rattle.turn_records.specs.Turn.{AreRecordsOf}

-- nothing of a kernel has changed but its clock, which has not gone back, and nothing was taken of the input or sent
pub record IsStill (kernel : Kernel) (left : List ℕ) (there : Reached) : Type 0 where
  pub same : at_clock kernel.clock there.machine.kernel ≡ kernel
  pub later : kernel.clock ≤ there.machine.kernel.clock
  pub rest : there.left ≡ left
  pub unsent : there.sent ≡ nothing

-- k turns lead to this machine, whatever is left of the input: they take nothing of it and send nothing, the process runs before each of them,
-- they have no events, a journal keeps nothing of them, and in none of them anything of the kernel changes but its clock
pub record IsQuiet (quantum : ℕ) (machine : Machine) (k : ℕ) (then : Machine) : Type 0 where
  pub running : (left : List ℕ) (j : ℕ) → j < k → IsRunningAt quantum machine left j
  pub reaches : (left : List ℕ) → reached quantum machine left k ≡ record { machine = then; left = left; sent = nothing; over = None }
  pub silent : (left : List ℕ) (j : ℕ) → j < k → (attempt quantum machine left j).events ≡ []
  pub unrecorded : (left : List ℕ) (j turn : ℕ) → j < k → AreRecordsOf quantum turn (reached quantum machine left j).machine (reached quantum machine left j).left []
  pub still : (left : List ℕ) (j : ℕ) → j ≤ k → IsStill machine.kernel left (reached quantum machine left j)

-- Some quiet turns, and one more, which is answered; together at most `limit`. The quiet ones count, and the last one counts where it is finished.
pub record IsTurnAfter (quantum limit : ℕ) (machine : Machine) (turns : ℕ) (result : Result code.Turn Stop) (became : Machine) (turns_then : ℕ) (events : List Event) (before after : Contents) : Type 0 where
  pub quiet : ℕ
  pub middle : Machine
  pub first : IsQuiet quantum machine quiet middle
  pub last : IsTurn (turn_of quantum middle) result became events before after
  pub counted : turns_then ≡ turns + quiet + turns_done result
  pub within : quiet < limit
