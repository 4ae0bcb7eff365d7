-- Turns that are taken at once: quiet ones, each an instruction with no record, no call and no fault, and one more.
use Rattle.std.specs.Prelude.{ℕ, ◌≡◌, ◌+◌, ◌<◌, List, [], ◌∷◌, Option, Some, None, Result, if◌then◌else◌}
use Rattle.kernel_core.specs.declared.record.Record.{Record}
use Rattle.kernel_model.specs.Pipes.{Sent}
use Rattle.mips_exec.specs.declared.execution.Stepped.{Stepped}
use Rattle.mips_exec.specs.declared.execution.Stepped.TheVariants.{Next, Syscall, Fault}
use Rattle.o32_model.specs.Effects.{Difference}
use Rattle.replay_core.specs.Answered.{Gains, Written}
use Rattle.replay_core.specs.Replay.{is_excused, replayed, turn_after}
use Rattle.replay_core.specs.declared.difference.Halt.{Halt}
use Rattle.replay_core.specs.declared.machine.Machine.{Machine}
use Rattle.replay_core.specs.inside.Parts.{Comes, replay_at}

-- the next record comes behind this turn
abbrev pub IsFree : ℕ → List Record → Type 0
IsFree turn [] = Unit {0}
IsFree turn (entry ∷ left) = turn < entry.turn

-- what an instruction came to in a turn that has no record
abbrev pub unrecorded : ℕ → Stepped → List Record → Option Difference
unrecorded turn Next left = None
unrecorded turn Syscall left = Some (record { wanted = 0; found = 1 })
unrecorded turn (Fault signal code address) left = if is_excused turn left then None else Some (record { wanted = 0; found = 2 })

-- So many quiet turns behind others lead to a machine, with nothing sent, and the turn behind them comes to this.
pub record Takes (old new : Machine) (turns quiet : ℕ) (before now : Written) (came : Result Unit Halt) : Type 0 where
  pub middle : Machine
  pub quietly : (sent : Sent) → replayed (replay_at old turns sent) quiet ≡ replay_at middle (turns + quiet) sent
  pub last : (first : Written) (sent : Sent) → Gains first before sent
      → Comes (turn_after (replay_at middle (turns + quiet) sent)) new (turns + quiet + 1) first sent now came
