-- What a run makes of the file of its trace. This project's own.
use Rattle.std.specs.Prelude.{ℕ, ◌≡◌, ◌⊎◌, List, Option, Some, Result, Ok, Err}
use Rattle.outside.specs.Count.{Rose}
use Rattle.outside.specs.Streams.{NoCountRose}
use Rattle.outside.specs.declared.devices.Devices.{Devices}
use Rattle.kernel_core.specs.declared.core_error.Stop.{Stop}
use Rattle.kernel_core.specs.declared.core_error.Stop.TheVariants.{NoMemory, ReadFault, WriteFault}
use Rattle.kernel_core.specs.declared.finish.Finish.{Finish}
use Rattle.o32_turns.specs.Machine.{Machine}
use Rattle.stored_files.specs.Stored.{IsPartly, Stored, WritesText}
use Rattle.o32_runner.specs.Trace.{next_lines, traced, whole_trace}

-- The text of the trace of a run that is over so after these turns, and of one that stopped after them: the lines of these turns with a part of what is
-- written next. It is said where the input tells what is left of it.

abbrev pub IsWholeTrace : ℕ → Machine → ℕ → Finish → Option (List ℕ) → List ℕ → Type 0
IsWholeTrace quantum machine turns finish told text = (left : List ℕ) → told ≡ Some left → text ≡ whole_trace quantum machine left turns finish

abbrev pub IsCutTrace : ℕ → Machine → ℕ → ℕ → Option (List ℕ) → List ℕ → Type 0
IsCutTrace quantum machine budget turns told text =
    (left : List ℕ) → told ≡ Some left → IsPartly (traced quantum machine left turns) (next_lines quantum machine left budget turns) text

abbrev pub IsTrace : ℕ → Machine → ℕ → ℕ → Result Finish Stop → Option (List ℕ) → List ℕ → Type 0
IsTrace quantum machine budget turns (Ok finish) told text = IsWholeTrace quantum machine turns finish told text
IsTrace quantum machine budget turns (Err stop) told text = IsCutTrace quantum machine budget turns told text

-- A run that is over wrote its trace whole, and one that stopped wrote a part.

abbrev pub TracesWhole : List ℕ → ℕ → Machine → ℕ → Finish → Option (List ℕ) → Stored → Stored → Type 0
TracesWhole name quantum machine turns finish told old new = WritesText name (IsWholeTrace quantum machine turns finish told) old new

abbrev pub TracesPart : List ℕ → ℕ → Machine → ℕ → ℕ → Option (List ℕ) → Stored → Stored → Type 0
TracesPart name quantum machine budget turns told old new =
    WritesText name (IsCutTrace quantum machine budget turns told) old new

abbrev pub TracesAs : List ℕ → ℕ → Machine → ℕ → ℕ → Result Finish Stop → Option (List ℕ) → Stored → Stored → Type 0
TracesAs name quantum machine budget turns (Ok finish) told old new = TracesWhole name quantum machine turns finish told old new
TracesAs name quantum machine budget turns (Err stop) told old new = TracesPart name quantum machine budget turns told old new

-- When such a run may stop early: by a device, or by the store, only where that counted a fault, and for want of memory only where none did. The
-- store's count of faulty writes stands before the devices.
abbrev pub StopsOnlyIfAnyRose : {I O E T : Type 0} → (I → ℕ) → (O → ℕ) → (E → ℕ) → Result T Stop → ℕ → ℕ → Devices I O E → Devices I O E → Type 0
StopsOnlyIfAnyRose input out err (Ok done) writes writes_then before after = NoCountRose input out err before after × (writes_then ≡ writes)
StopsOnlyIfAnyRose input out err (Err NoMemory) writes writes_then before after = NoCountRose input out err before after × (writes_then ≡ writes)
StopsOnlyIfAnyRose input out err (Err ReadFault) writes writes_then before after = Rose (input before.input) (input after.input) × (writes_then ≡ writes)
StopsOnlyIfAnyRose input out err (Err WriteFault) writes writes_then before after =
    Rose (out before.out) (out after.out) ⊎ (Rose (err before.err) (err after.err) ⊎ Rose writes writes_then)
