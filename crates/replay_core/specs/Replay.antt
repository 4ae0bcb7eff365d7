-- A finished run repeated from its journal: the machine takes the turns of the run, and what was done from outside its instructions is carried
-- out from the records. No kernel stands behind it. (Turns, the journal and its replay are this project's own.)
use Rattle.std.specs.Prelude.{ℕ, zero, suc, ◌+◌, Bool, true, false, ◌&&◌, ◌||◌, ◌==◌, List, [], ◌∷◌, Option, Some, None, Result, Ok, Err, if◌then◌else◌}
use Rattle.guest_space.specs.Memory.{Memory}
use Rattle.kernel_core.specs.declared.finish.Finish.{Finish}
use Rattle.kernel_core.specs.declared.finish.Finish.TheVariants.{Exited, Killed, Budget, Blocked}
use Rattle.kernel_core.specs.declared.record.Effect.{Effect}
use Rattle.kernel_core.specs.declared.record.Record.{Record}
use Rattle.kernel_model.specs.Pipes.{Sent}
use Rattle.mips_exec.specs.Processor.{Processor, register}
use Rattle.mips_exec.specs.Step.{step_of}
use Rattle.mips_exec.specs.declared.execution.Stepped.{Stepped}
use Rattle.mips_exec.specs.declared.execution.Stepped.TheVariants.{Next, Syscall, Fault}
use Rattle.o32_model.specs.Effects.{Difference, Target, carried}
use Rattle.o32_model.specs.Words.{v0, a0, a1, a2, a3}

-- What stands after so many turns: the registers, memory, what was sent since the start, the records that are left, the number of turns that are
-- finished, and the difference between journal and machine that was met in the turn behind them
pub record Replay : Type 0 where
  pub processor : Processor
  pub memory : Memory
  pub sent : Sent
  pub left : List Record
  pub turns : ℕ
  pub difference : Option Difference

abbrev pub meets : Replay → Option Difference → Replay
meets replay difference = record replay { difference = difference }

abbrev pub differs : ℕ → ℕ → Replay → Replay
differs wanted found replay = meets replay (Some (record { wanted = wanted; found = found }))

-- once a difference is met nothing goes on
abbrev pub unless_met : Option Difference → Replay → Replay → Replay
unless_met (Some difference) met further = met
unless_met None met further = further

-- Kinds of records: before an instruction, a call, a turn without an instruction, the end

abbrev pub before_kind : ℕ
before_kind = 1

abbrev pub call_kind : ℕ
call_kind = 2

abbrev pub idle_kind : ℕ
idle_kind = 3

abbrev pub end_kind : ℕ
end_kind = 4

-- the next record is of this turn and of this kind
abbrev pub comes : ℕ → ℕ → List Record → Bool
comes turn kind [] = false
comes turn kind (entry ∷ left) = (entry.turn == turn) && (entry.kind == kind)

-- Words

-- the six words that a record keeps: the program counter, $v0, and $a0 to $a3
abbrev pub words_of : Processor → List ℕ
words_of p = p.pc ∷ register p v0 ∷ register p a0 ∷ register p a1 ∷ register p a2 ∷ register p a3 ∷ []

-- the first of the words of a record that is not the machine's, and the machine's
abbrev pub first_difference : List ℕ → List ℕ → Option Difference
first_difference [] found = None
first_difference (wanted ∷ more) [] = None
first_difference (wanted ∷ more) (found ∷ others) =
    if wanted == found then first_difference more others else Some (record { wanted = wanted; found = found })

-- Effects

-- the first difference that effects meet, and what was carried out before it
pub record Carried : Type 0 where
  pub target : Target
  pub difference : Option Difference

abbrev pub carried_on : List Effect → Target → Result Target Difference → Carried
carried_on effects before (Err difference) = record { target = before; difference = Some difference }
carried_on [] before (Ok target) = record { target = target; difference = None }
carried_on (effect ∷ effects) before (Ok target) = carried_on effects target (carried target effect)

abbrev pub carried_all : Target → List Effect → Carried
carried_all target effects = carried_on effects target (Ok target)

-- what they act on; no LL before a record goes on to an SC behind it
abbrev pub target_of : Replay → Target
target_of replay = record {
  processor = record replay.processor { link = None };
  pages = replay.memory.pages;
  sent = replay.sent;
}

abbrev pub with_carried : Replay → Carried → Replay
with_carried replay carried = record replay {
  processor = carried.target.processor;
  memory = record replay.memory { pages = carried.target.pages };
  sent = carried.target.sent;
  difference = carried.difference;
}

-- The next record is used up: its words are compared with the machine's, and where they are the same its effects are carried out.

abbrev pub carried_unless : Option Difference → List Effect → Replay → Replay
carried_unless (Some difference) effects replay = meets replay (Some difference)
carried_unless None effects replay = with_carried replay (carried_all (target_of replay) effects)

abbrev pub taken : List ℕ → List Record → Replay → Replay
taken words [] replay = replay
taken words (entry ∷ left) replay =
    carried_unless (first_difference entry.words words) entry.effects (record replay { left = left })

-- A turn

-- what was done before its instruction
abbrev pub before_instruction : ℕ → Replay → Replay
before_instruction turn replay =
    if comes turn before_kind replay.left then taken (words_of replay.processor) replay.left replay else replay

-- After a fault the next turn has a record before its instruction, or the run has ended with this turn or the next.
abbrev pub is_excused : ℕ → List Record → Bool
is_excused turn left = comes (turn + 1) before_kind left || (comes (turn + 1) end_kind left || comes turn end_kind left)

-- A call of the run has a record, and where that is the machine makes a call. Its words are those of before the instruction.
abbrev pub after_step : ℕ → List ℕ → Stepped → Replay → Replay
after_step turn words Next replay = if comes turn call_kind replay.left then differs 1 0 replay else replay
after_step turn words Syscall replay = if comes turn call_kind replay.left then taken words replay.left replay else differs 0 1 replay
after_step turn words (Fault signal code address) replay =
    if comes turn call_kind replay.left then differs 1 0 replay else (if is_excused turn replay.left then replay else differs 0 2 replay)

abbrev pub instruction : ℕ → Replay → Replay
instruction turn replay =
    let step = step_of replay.processor replay.memory in
    after_step turn (words_of replay.processor) step.came (record replay { processor = step.processor; memory = step.memory })

-- where a signal ended the run its last turn has no instruction

abbrev pub is_killing : Option Finish → Bool
is_killing None = false
is_killing (Some (Exited status)) = false
is_killing (Some (Killed signal)) = true
is_killing (Some Budget) = false
is_killing (Some Blocked) = false

abbrev pub ends_killed : ℕ → List Record → Bool
ends_killed turn [] = false
ends_killed turn (entry ∷ left) = comes turn end_kind (entry ∷ left) && is_killing entry.finish

-- nor has a turn in which the process waits; a record of such a turn has no effects
abbrev pub idle : List ℕ → List Record → Replay → Replay
idle words [] replay = replay
idle words (entry ∷ left) replay = meets (record replay { left = left }) (first_difference entry.words words)

abbrev pub instruction_or_none : ℕ → Replay → Replay
instruction_or_none turn replay =
    if ends_killed turn replay.left then replay
    else (if comes turn idle_kind replay.left then idle (words_of replay.processor) replay.left replay else instruction turn replay)

-- a turn that meets no difference is finished
abbrev pub counted : Replay → Replay
counted replay = unless_met replay.difference replay (record replay { turns = replay.turns + 1 })

abbrev pub turn_after : Replay → Replay
turn_after replay =
    let turn = replay.turns + 1 in
    let first = before_instruction turn replay in
    counted (unless_met first.difference first (instruction_or_none turn first))

-- The replay

-- once a difference is met no turn follows
abbrev pub turn_or_none : Replay → Replay
turn_or_none replay = unless_met replay.difference replay (turn_after replay)

-- what stands after so many turns
unfoldable pub replayed : Replay → ℕ → Replay
replayed start zero = start
replayed start (suc k) = turn_or_none (replayed start k)
