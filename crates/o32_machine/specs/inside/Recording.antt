-- What the parts of a turn keep for the journal. (The form is this project's own.)
use Rattle.std.specs.Prelude.{◌≡◌, ℕ, List, Option, Some, Result, OnOk}
use Rattle.guest_space.specs.Memory.{Pages}
use Rattle.kernel_core.specs.declared.core_error.Stop.{Stop}
use Rattle.kernel_core.specs.declared.record.Effect.{Effect}
use Rattle.kernel_model.specs.Pipes.{Sent}
use Rattle.mips_exec.specs.Processor.{Processor}
use Rattle.mips_exec.specs.declared.execution.Stepped.{Stepped}
use Rattle.bridge_log.specs.Keeping.{reached}
use Rattle.o32_model.specs.Effects.{Effected}
use Rattle.o32_turns.specs.Machine.{Machine, Within}
use Rattle.turn_records.specs.Keeping.{Gains, Records}
use Rattle.turn_records.specs.Turn.{IsBefore, IsBehind, IsStepRecorded, before_instruction}

-- The effects that a part of a turn kept lead from the pages before it to those after it, whatever the registers are and was sent. It is said where
-- the input tells what is left of it, `told`, and of a part that stopped early nothing is said.
abbrev pub KeepsEffects : {A : Type 0} → Result A Stop → Option (List ℕ) → Pages → Pages → Option (List Effect) → Option (List Effect) → Type 0
KeepsEffects result told pages became old new =
    (left : List ℕ) → told ≡ Some left → OnOk result ((processor : Processor) (sent : Sent) → Effected old new (reached processor pages sent) (reached processor became sent))

-- the record of what was done before an instruction
abbrev pub RecordsBefore : {A : Type 0} → Result A Stop → Option (List ℕ) → ℕ → Machine → Records → Records → Type 0
RecordsBefore result told turn machine old new =
    (left : List ℕ) → told ≡ Some left → OnOk result (Gains old new (IsBefore turn machine (before_instruction machine)))

-- the record of what comes of an instruction's step, which began at this address
abbrev pub RecordsStep : {A : Type 0} → Result A Stop → Option (List ℕ) → ℕ → ℕ → Machine → Stepped → Records → Records → Type 0
RecordsStep result told turn at machine came old new =
    (left : List ℕ) → told ≡ Some left → OnOk result (Gains old new (IsStepRecorded turn at machine came left))

-- and the record of the last steps of a turn
abbrev pub RecordsBehind : {A : Type 0} → Result A Stop → Option (List ℕ) → ℕ → Within → Records → Records → Type 0
RecordsBehind result told turn within old new =
    (left : List ℕ) → told ≡ Some left → OnOk result (Gains old new (IsBehind turn within left))
