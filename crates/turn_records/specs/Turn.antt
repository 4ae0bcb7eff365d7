-- What a journal keeps of a turn. (The journal and its records are this project's own.)
use Rattle.std.specs.Prelude.{◌≡◌, ◌⊎◌, ℕ, Bool, true, false, ◌&&◌, ◌||◌, is_none, List, [], ◌∷◌, ◌++◌, is_some, if◌then◌else◌}
use Rattle.std.specs.List.{list_any}
use Rattle.journal.specs.Form.{before_kind, call_kind, idle_kind}
use Rattle.kernel_core.specs.declared.event.Delivery.{Delivery}
use Rattle.kernel_core.specs.declared.event.Delivery.TheVariants as deliveries
use Rattle.kernel_core.specs.declared.event.Event.{Event}
use Rattle.kernel_core.specs.declared.event.Event.TheVariants as events
use Rattle.kernel_core.specs.declared.record.Record.{Record}
use Rattle.kernel_model.specs.Pipes.{nothing}
use Rattle.mips_exec.specs.Step.{step_of}
use Rattle.mips_exec.specs.declared.execution.Stepped.{Stepped}
use Rattle.mips_exec.specs.declared.execution.Stepped.TheVariants.{Next, Syscall, Fault}
use Rattle.o32_turns.specs.Instruction.{called}
use Rattle.o32_turns.specs.Machine.{Machine, Turn, Within}
use Rattle.o32_turns.specs.Runs.{is_blocked}
use Rattle.o32_turns.specs.Turn.{first_step, second_step, third_step, fourth_step, turn_of, whole}
use Rattle.turn_records.specs.Entry.{IsEntry, IsOne, target_of, words_at, words_of}

-- What stands before an instruction: behind the first four steps of a turn, of which a process that was killed doesn't take the fourth

abbrev pub unless_over : Within → Within
unless_over within = if is_some within.over then within else fourth_step whole within

abbrev pub before_instruction : Machine → Within
before_instruction machine = unless_over (third_step whole (second_step whole (first_step whole machine)))

-- What was done there, by the events of the turn. Registers and memory are changed only where a wait ended, or was made to come again, or the frame
-- of a handler was written. A frame that can't be written has the event of its handler too: it is a fault then, which is delivered at once by the
-- frame of another handler, or kills. So the frame of one was written where a handler has its event and the process was not killed.

abbrev pub is_handler : Delivery → Bool
is_handler deliveries.Handler = true
is_handler _ = false

abbrev pub begins_handler : Event → Bool
begins_handler (events.Signal signal delivery) = is_handler delivery
begins_handler _ = false

abbrev pub touches : Event → Bool
touches (events.Done value failed) = true
touches (events.Restart number) = true
touches (events.Signal signal delivery) = is_handler delivery
touches _ = false

abbrev pub is_entered : Within → Bool
is_entered within = list_any begins_handler within.events && is_none within.over

abbrev pub is_touched : Within → Bool
is_touched within = list_any touches within.events

-- Before the instruction there is a record where registers or memory were changed, and where a handler was entered, though its frame changed
-- neither; it has the words of before that. Else there is one at most where a kernel's write has left them as they were.

pub record IsUntouched (machine : Machine) (within : Within) : Type 0 where
  pub none : is_entered within ≡ false
  pub same : target_of machine.processor machine.memory nothing ≡ target_of within.machine.processor within.machine.memory nothing

pub record IsTouched (turn : ℕ) (machine : Machine) (within : Within) (entry : Record) : Type 0 where
  pub touched : is_touched within ≡ true
  pub some : (is_entered within ≡ true) ⊎ ((entry.effects ≡ []) → ⊥)
  pub recorded : IsEntry turn before_kind (words_of machine.processor)
      (target_of machine.processor machine.memory nothing) (target_of within.machine.processor within.machine.memory nothing) entry

abbrev pub IsBefore : ℕ → Machine → Within → List Record → Type 0
IsBefore turn machine within [] = IsUntouched machine within
IsBefore turn machine within (entry ∷ []) = IsTouched turn machine within entry
IsBefore turn machine within (entry ∷ other ∷ more) = ⊥

-- A call has a record, with the words of before its SYSCALL, and no other instruction has one.

abbrev pub IsCallEntry : ℕ → ℕ → Machine → Turn → Record → Type 0
IsCallEntry turn at machine came entry =
    IsEntry turn call_kind (words_at at machine.processor)
    (target_of machine.processor machine.memory nothing) (target_of came.machine.processor came.machine.memory came.sent) entry

abbrev pub IsStepRecorded : ℕ → ℕ → Machine → Stepped → List ℕ → List Record → Type 0
IsStepRecorded turn at machine Next left records = records ≡ []
IsStepRecorded turn at machine Syscall left records = IsOne (IsCallEntry turn at machine (called whole machine left)) records
IsStepRecorded turn at machine (Fault signal code address) left records = records ≡ []

abbrev pub IsInstructionRecorded : ℕ → Machine → List ℕ → List Record → Type 0
IsInstructionRecorded turn machine left records =
    let step = step_of machine.processor machine.memory in
    IsStepRecorded turn machine.processor.pc (record machine { processor = step.processor; memory = step.memory }) step.came left records

-- A turn without an instruction has one too, which has no effects.
pub record IsIdleEntry (turn : ℕ) (machine : Machine) (entry : Record) : Type 0 where
  pub recorded : IsEntry turn idle_kind (words_of machine.processor)
      (target_of machine.processor machine.memory nothing) (target_of machine.processor machine.memory nothing) entry
  pub none : entry.effects ≡ []

-- an attempt that finds the process blocked is no turn, and has none
abbrev pub unless_none : Bool → List Record → Type 0 → Type 0
unless_none true records IsRecorded = records ≡ []
unless_none false records IsRecorded = IsRecorded

-- the last steps of a turn, of which a process that was killed takes none
abbrev pub IsLast : Bool → ℕ → Machine → List ℕ → List Record → Type 0
IsLast true turn machine left records = IsOne (IsIdleEntry turn machine) records
IsLast false turn machine left records = IsInstructionRecorded turn machine left records

abbrev pub IsBehind : ℕ → Within → List ℕ → List Record → Type 0
IsBehind turn within left records =
    unless_none (is_some within.over) records
    (IsLast (within.machine.stopped || is_some within.machine.wait) turn within.machine left records)

-- The records of a turn, in order: that of before its instruction, and that of the call or of the turn without an instruction

pub record IsTurnRecorded (turn : ℕ) (machine : Machine) (left : List ℕ) (records : List Record) : Type 0 where
  pub first : List Record
  pub last : List Record
  pub whole : records ≡ first ++ last
  pub before : IsBefore turn machine (before_instruction machine) first
  pub behind : IsBehind turn (before_instruction machine) left last

abbrev pub AreRecordsOf : ℕ → ℕ → Machine → List ℕ → List Record → Type 0
AreRecordsOf quantum turn machine left records =
    unless_none (is_blocked (turn_of quantum machine left)) records (IsTurnRecorded turn machine left records)
