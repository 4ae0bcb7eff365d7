-- What a turn keeps for the journal. (The journal and its records are this project's own.)
use Rattle.std.specs.Prelude.{◌≡◌, ◌+◌, ◌-◌, ◌%◌, ◌^◌, ℕ, List, Some, Result, OnOk}
use Rattle.kernel_core.specs.declared.core_error.Stop.{Stop}
use Rattle.o32_machine.specs.Answered.{turns_done}
use Rattle.o32_machine.specs.declared.turn.Turn as code
use Rattle.o32_turns.specs.Instruction.{called}
use Rattle.o32_turns.specs.Machine.{Machine}
use Rattle.o32_turns.specs.Runs.{reached}
use Rattle.o32_turns.specs.Turn.{whole}
use Rattle.outside.specs.Streams.{Contents}
use Rattle.turn_records.specs.Entry.{IsOne}
use Rattle.turn_records.specs.Keeping.{Gains, Records, emptied}
use Rattle.turn_records.specs.Turn.{AreRecordsOf, IsCallEntry}

-- Where a journal is kept, the records are those of the last of the turns that were taken: of the attempt behind some quiet ones, which have none.
-- `turns` is how many there were before, and `then` how many there are.
pub record LastRecorded (quantum : ℕ) (machine : Machine) (turns : ℕ) (left : List ℕ) (result : Result code.Turn Stop) (then : ℕ) (old new : Records) : Type 0 where
  pub quiet : ℕ
  pub counted : then ≡ turns + quiet + turns_done result
  pub gains : Gains (emptied old) new (AreRecordsOf quantum (turns + quiet + 1) (reached quantum machine left quiet).machine left)

-- It is said where the input tells what is left of it, and of a turn that stopped early nothing is said.
abbrev pub RecordsTurns : Result code.Turn Stop → ℕ → Machine → ℕ → ℕ → Records → Records → Contents → Type 0
RecordsTurns result quantum machine turns then old new before =
    (left : List ℕ) → before.left ≡ Some left → OnOk result (LastRecorded quantum machine turns left result then old new)

-- so the records of one turn, the next behind so many
abbrev pub RecordsTurn : Result code.Turn Stop → ℕ → Machine → ℕ → Records → Records → Contents → Type 0
RecordsTurn result quantum machine turns old new before =
    (left : List ℕ) → before.left ≡ Some left → OnOk result (Gains (emptied old) new (AreRecordsOf quantum (turns + 1) machine left))

-- and the record of the call of the SYSCALL that was just executed, whose address is the program counter less 4
abbrev pub RecordsCall : Result code.Turn Stop → ℕ → Machine → Records → Records → Contents → Type 0
RecordsCall result turn machine old new before =
    (left : List ℕ) → before.left ≡ Some left
    → OnOk result (Gains old new (IsOne (IsCallEntry turn ((machine.processor.pc + (2 ^ 32 - 4)) % 2 ^ 32) machine (called whole machine left))))
