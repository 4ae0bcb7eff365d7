-- How turns are taken and told one after the other.
use Rattle.std.specs.Prelude.{ℕ, ◌≡◌, ◌+◌, ◌-◌, ◌⊎◌, ⊤, List, [], ◌∷◌, ◌++◌, Contains, Option, None, Some, Result, Ok, Err, unwrap_or}
use Rattle.kernel_core.specs.declared.core_error.Stop.{Stop}
use Rattle.kernel_core.specs.declared.core_error.Stop.TheVariants as stops
use Rattle.kernel_core.specs.declared.event.Event.{Event}
use Rattle.kernel_core.specs.declared.event.Event.TheVariants as events
use Rattle.kernel_core.specs.declared.finish.Finish.{Finish}
use Rattle.kernel_core.specs.declared.finish.Finish.TheVariants.{Exited, Killed, Budget, Blocked}
use Rattle.kernel_core.specs.declared.record.Record.{Record}
use Rattle.o32_machine.specs.Answered.{turns_of}
use Rattle.o32_machine.specs.Emulator.{Emulated}
use Rattle.o32_machine.specs.Quiet.{IsTurnAfter}
use Rattle.o32_machine.specs.declared.turn.Turn as code
use Rattle.o32_machine.specs.declared.turn.Turn.TheVariants.{Went, Ended}
use Rattle.outside.specs.Count.{Rose}
use Rattle.outside.specs.Files.{ChangesFile}
use Rattle.outside.specs.Output.{IsPrefix, with_text}
use Rattle.outside.specs.Streams.{Contents}
use Rattle.outside.specs.declared.errors.DevError.{DevError}
use Rattle.outside.specs.declared.errors.DevError.TheVariants as device
use Rattle.o32_machine.specs.Native.{LogsTurns}
use Rattle.o32_machine.specs.Records.{RecordsTurns}
use Rattle.o32_runner.specs.JournalText.{records_text}
use Rattle.o32_runner.specs.NativeText.{entry_lines}
use Rattle.stored_files.specs.Stored.{IfNamed, Stored}
use Rattle.o32_runner.specs.Trace.{turn_lines}
use Rattle.o32_runner.specs.declared.told.Cut.{Cut}
use Rattle.trace_text.specs.Trace.{trace_line}
use Rattle.turn_records.specs.Run.{end_of}

-- The lines of a turn

-- those of its events, where it came to this and so many turns are done then
abbrev pub told_lines : ℕ → code.Turn → List Event → List ℕ
told_lines turns Went happened = turn_lines turns happened
told_lines turns (Ended (Exited status)) happened = turn_lines turns happened
told_lines turns (Ended (Killed signal)) happened = turn_lines turns happened
told_lines turns (Ended Budget) happened = turn_lines turns happened
told_lines turns (Ended Blocked) happened = turn_lines (turns + 1) happened ++ trace_line turns events.Blocked

-- its number, or the one that the attempt would have had
abbrev pub number_of : ℕ → code.Turn → ℕ
number_of turns turn = turns - turns_of turn + 1

abbrev pub trace_of : Emulated → code.Turn → List ℕ
trace_of emulated turn = told_lines emulated.turns turn emulated.events

abbrev pub native_of : Emulated → code.Turn → List ℕ
native_of emulated turn = entry_lines (number_of emulated.turns turn) (unwrap_or emulated.native.entries [])

-- The text of the journal that a turn adds: what stands before its records, its records, and the end, where the run is over with it

abbrev pub end_told : ℕ → code.Turn → List Record
end_told turns Went = []
end_told turns (Ended finish) = end_of turns finish ∷ []

abbrev pub told_records : ℕ → code.Turn → List Record → List Record
told_records turns turn records = records ++ end_told turns turn

abbrev pub journal_of : List ℕ → Emulated → code.Turn → List ℕ
journal_of front emulated turn = front ++ records_text (told_records emulated.turns turn (unwrap_or emulated.records []))

-- and that of a run whose budget is done
abbrev pub budget_record : List ℕ → ℕ → List ℕ
budget_record front turns = front ++ records_text (end_of turns Budget ∷ [])

-- Files

-- the file was made, where one is named
abbrev pub IsMade : List (List ℕ) → Option (List ℕ) → Type 0
IsMade created None = ⊤
IsMade created (Some name) = Contains created name

-- a text was added to the file of this name
pub record AddsText (name text : List ℕ) (old new : Stored) : Type 0 where
  pub files : ChangesFile old.files new.files name (λ before after. after ≡ with_text before text)
  pub created : new.created ≡ old.created
  pub loads : new.loads ≡ old.loads
  pub turned : new.turned ≡ old.turned

-- where a file is named
abbrev pub Adds : Option (List ℕ) → List ℕ → Stored → Stored → Type 0
Adds name text old new = IfNamed name (λ there. AddsText there text) old new

-- a first part of it was added
abbrev pub AddsPart : Option (List ℕ) → List ℕ → Stored → Stored → Type 0
AddsPart name text old new = (part : List ℕ) × IsPrefix part text × Adds name part old new

-- a text to the first file, and then one to the second
pub record AddsBoth (trace native : Option (List ℕ)) (traced logged : List ℕ) (old new : Stored) : Type 0 where
  pub middle : Stored
  pub first : Adds trace traced old middle
  pub second : Adds native logged middle new

-- a first part of both
pub record AddsPartOfBoth (trace native : Option (List ℕ)) (traced logged : List ℕ) (old new : Stored) : Type 0 where
  pub trace_part : List ℕ
  pub native_part : List ℕ
  pub trace_begins : IsPrefix trace_part traced
  pub native_begins : IsPrefix native_part logged
  pub adds : AddsBoth trace native trace_part native_part old new

-- and one to the third
pub record AddsAll (trace native journal : Option (List ℕ)) (traced logged kept : List ℕ) (old new : Stored) : Type 0 where
  pub middle : Stored
  pub lines : AddsBoth trace native traced logged old middle
  pub records : Adds journal kept middle new

-- a first part of each
pub record AddsPartOfAll (trace native journal : Option (List ℕ)) (traced logged kept : List ℕ) (old new : Stored) : Type 0 where
  pub middle : Stored
  pub lines : AddsPartOfBoth trace native traced logged old middle
  pub records : AddsPart journal kept middle new

-- Turns

-- why a run that took turns is cut, where it is
abbrev pub stop_in : Result code.Turn Cut → Result code.Turn Stop
stop_in (Ok turn) = Ok turn
stop_in (Err cut) = Err cut.stop

-- why a store's call ends a run
abbrev pub stop_of : DevError → Stop
stop_of device.Failed = stops.WriteFault
stop_of device.NoMemory = stops.NoMemory

-- The turns that an emulator took came to this
pub record Takes (limit : ℕ) (result : Result code.Turn Stop) (old new : Emulated) (turns : ℕ) (before after : Contents) : Type 0 where
  pub turned : IsTurnAfter old.quantum limit old.machine old.turns result new.machine turns new.events before after
  pub logged : LogsTurns result old.quantum old.machine old.turns turns new.machine.kernel old.native new.native before
  pub recorded : RecordsTurns result old.quantum old.machine old.turns turns old.records new.records before

-- and were told, in the journal behind this front; or the run is cut: in a turn, or where its texts were added, which then does not count.
abbrev pub TakesAll : List ℕ → ℕ → Result code.Turn Cut → Emulated → Emulated → Contents → Contents → Option (List ℕ) → Option (List ℕ) → Option (List ℕ) → Stored → Stored → Type 0
TakesAll front limit (Ok turn) emulated became before after trace native journal old new =
    Takes limit (Ok turn) emulated became became.turns before after
    × AddsAll trace native journal (trace_of became turn) (native_of became turn) (journal_of front became turn) old new
TakesAll front limit (Err cut) emulated became before after trace native journal old new =
    (Takes limit (Err cut.stop) emulated became cut.turns before after × (new ≡ old))
    ⊎ ((turn : code.Turn) × Takes limit (Ok turn) emulated became became.turns before after
    × AddsPartOfAll trace native journal (trace_of became turn) (native_of became turn) (journal_of front became turn) old new × (became.turns ≡ cut.turns + turns_of turn))

-- the line that the budget's turns are done was added to the trace, and the end to the journal, or a part of both
abbrev pub EndsBudget : Option (List ℕ) → Option (List ℕ) → List ℕ → ℕ → Result Finish Stop → Stored → Stored → Type 0
EndsBudget trace journal front turns (Ok finish) old new =
    (finish ≡ Budget) × AddsBoth trace journal (trace_line turns events.Budget) (budget_record front turns) old new
EndsBudget trace journal front turns (Err stop) old new =
    AddsPartOfBoth trace journal (trace_line turns events.Budget) (budget_record front turns) old new

-- the store's count of faulty writes rose where a fault is told, and in no other case
abbrev pub WritesOnlyIfRose : Result Finish Stop → ℕ → ℕ → Type 0
WritesOnlyIfRose (Ok finish) before now = now ≡ before
WritesOnlyIfRose (Err stops.NoMemory) before now = now ≡ before
WritesOnlyIfRose (Err stops.WriteFault) before now = Rose before now
WritesOnlyIfRose (Err stops.ReadFault) before now = ⊥
