-- The journal of a run: its front, the records of its turns, and its text. This project's own.
use Rattle.std.specs.Prelude.{ℕ, zero, suc, ◌≡◌, ◌+◌, ◌<◌, ◌⊎◌, List, [], ◌∷◌, ◌++◌, Option, Some, None, Result, Ok, Err}
use Rattle.std.specs.List.{flat_map}
use Rattle.journal.specs.Text.{record_text}
use Rattle.kernel_core.specs.declared.core_error.Stop.{Stop}
use Rattle.kernel_core.specs.declared.finish.Finish.{Finish}
use Rattle.kernel_core.specs.declared.finish.Finish.TheVariants.{Exited, Killed, Budget, Blocked}
use Rattle.kernel_core.specs.declared.record.Record.{Record}
use Rattle.o32_turns.specs.Machine.{Machine}
use Rattle.o32_turns.specs.Runs.{attempt, reached}
use Rattle.turn_records.specs.Run.{AreRecordsOfRun, AreRecordsUpTo, end_of}
use Rattle.turn_records.specs.Turn.{AreRecordsOf}
use Rattle.stored_files.specs.Stored.{IsPartly, Stored, WritesText}

-- The text

abbrev pub records_text : List Record → List ℕ
records_text records = flat_map record_text records

-- The front, which stands before all records, counts as text of the first turn: so much of it stands after k turns, and so much is still to come.

abbrev pub front_after : ℕ → List ℕ → List ℕ
front_after zero front = []
front_after (suc k) front = front

abbrev pub front_to_come : ℕ → List ℕ → List ℕ
front_to_come zero front = front
front_to_come (suc k) front = []

-- What comes next

-- The end behind the records of the attempt at the turn after k turns, where the run is over with it. An attempt that finds the process blocked is no turn.
abbrev pub end_behind : ℕ → Option Finish → List Record
end_behind k None = []
end_behind k (Some (Exited status)) = end_of (k + 1) (Exited status) ∷ []
end_behind k (Some (Killed signal)) = end_of (k + 1) (Killed signal) ∷ []
end_behind k (Some Budget) = end_of (k + 1) Budget ∷ []
end_behind k (Some Blocked) = end_of k Blocked ∷ []

-- the records of that attempt, with the end
pub record AreOfAttempt (quantum : ℕ) (machine : Machine) (left : List ℕ) (k : ℕ) (records : List Record) : Type 0 where
  pub own : List Record
  pub are : AreRecordsOf quantum (k + 1) (reached quantum machine left k).machine (reached quantum machine left k).left own
  pub whole : records ≡ own ++ end_behind k (attempt quantum machine left k).over

-- What a run for a budget has next after k turns: the records of the attempt at the next turn, where that was finished, or none; or, where the budget's
-- turns are done, the end
abbrev pub AreNext : ℕ → Machine → List ℕ → ℕ → ℕ → List Record → Type 0
AreNext quantum machine left budget k records =
    (records ≡ []) ⊎ (((k < budget) × AreOfAttempt quantum machine left k records) ⊎ ((k ≡ budget) × (records ≡ end_of k Budget ∷ [])))

-- The journal of the run for a budget that is over so after these turns
pub record HasJournal (front : List ℕ) (quantum : ℕ) (machine : Machine) (left : List ℕ) (budget turns : ℕ) (finish : Finish) (text : List ℕ) : Type 0 where
  pub records : List Record
  pub are : AreRecordsOfRun quantum machine left budget turns finish records
  pub written : text ≡ front ++ records_text records

-- The journal of a run for a budget that stopped after these turns: that of these turns, and a first part of what comes next
pub record HasCutJournal (front : List ℕ) (quantum : ℕ) (machine : Machine) (left : List ℕ) (budget turns : ℕ) (text : List ℕ) : Type 0 where
  pub records : List Record
  pub are : AreRecordsUpTo quantum machine left turns records
  pub next : List Record
  pub are_next : AreNext quantum machine left budget turns next
  pub written : IsPartly (front_after turns front ++ records_text records) (front_to_come turns front ++ records_text next) text

-- The file

-- Its text is said where the input tells what is left of it.

abbrev pub IsWholeJournal : List ℕ → ℕ → Machine → ℕ → ℕ → Finish → Option (List ℕ) → List ℕ → Type 0
IsWholeJournal front quantum machine budget turns finish told text = (left : List ℕ) → told ≡ Some left → HasJournal front quantum machine left budget turns finish text

abbrev pub IsCutJournal : List ℕ → ℕ → Machine → ℕ → ℕ → Option (List ℕ) → List ℕ → Type 0
IsCutJournal front quantum machine budget turns told text = (left : List ℕ) → told ≡ Some left → HasCutJournal front quantum machine left budget turns text

-- A run that is over wrote its journal whole, and one that stopped wrote a part.

abbrev pub KeepsWhole : List ℕ → List ℕ → ℕ → Machine → ℕ → ℕ → Finish → Option (List ℕ) → Stored → Stored → Type 0
KeepsWhole name front quantum machine budget turns finish told old new = WritesText name (IsWholeJournal front quantum machine budget turns finish told) old new

abbrev pub KeepsPart : List ℕ → List ℕ → ℕ → Machine → ℕ → ℕ → Option (List ℕ) → Stored → Stored → Type 0
KeepsPart name front quantum machine budget turns told old new =
    WritesText name (IsCutJournal front quantum machine budget turns told) old new

abbrev pub KeepsAs : List ℕ → List ℕ → ℕ → Machine → ℕ → ℕ → Result Finish Stop → Option (List ℕ) → Stored → Stored → Type 0
KeepsAs name front quantum machine budget turns (Ok finish) told old new = KeepsWhole name front quantum machine budget turns finish told old new
KeepsAs name front quantum machine budget turns (Err stop) told old new = KeepsPart name front quantum machine budget turns told old new
