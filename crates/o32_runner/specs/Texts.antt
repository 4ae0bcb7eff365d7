-- The files that a run writes, one for each of its texts, where one is named for it. This project's own.
use Rattle.std.specs.Prelude.{ℕ, ◌≡◌, ◌≢◌, ◌⊎◌, ⊤, true, List, Option, None, Some, Result, Ok, Err}
use Rattle.outside.specs.Streams.{Contents}
use Rattle.kernel_core.specs.declared.core_error.Stop.{Stop}
use Rattle.kernel_core.specs.declared.finish.Finish.{Finish}
use Rattle.o32_machine.specs.Passed.{NativeLog, first_log}
use Rattle.o32_turns.specs.Machine.{Machine}
use Rattle.o32_runner.specs.JournalText.{KeepsAs}
use Rattle.o32_runner.specs.Making.{IsUnbegun}
use Rattle.o32_runner.specs.NativeText.{LogsAs}
use Rattle.stored_files.specs.Stored.{IfNamed, Stored}
use Rattle.o32_runner.specs.Traced.{TracesAs}
use Rattle.turn_records.specs.Keeping.{Records, first_records}

-- two names, where both are there, are different ones
abbrev pub Differ : Option (List ℕ) → Option (List ℕ) → Type 0
Differ None other = ⊤
Differ (Some one) None = ⊤
Differ (Some one) (Some other) = one ≢ other

pub record AllDiffer (trace native journal : Option (List ℕ)) : Type 0 where
  pub first : Differ trace native
  pub second : Differ trace journal
  pub third : Differ native journal

-- where a file is named for the native log, it is kept, and has not begun
abbrev pub BeginsLog : Option (List ℕ) → NativeLog → Type 0
BeginsLog None native = ⊤
BeginsLog (Some name) native = native ≡ first_log true

-- and so for the journal
abbrev pub BeginsJournal : Option (List ℕ) → Records → Type 0
BeginsJournal None records = ⊤
BeginsJournal (Some name) records = records ≡ first_records true

-- Each of the files has its own text: that of the trace, then that of the native log, and then that of the journal, which begins with a front; and no other
-- file changes.
pub record WritesEach (trace native journal : Option (List ℕ)) (front : List ℕ) (quantum : ℕ) (machine : Machine) (budget turns : ℕ) (end : Result Finish Stop) (told : Option (List ℕ)) (old new : Stored) : Type 0 where
  pub traced : Stored
  pub logged : Stored
  pub traces : IfNamed trace (λ name. TracesAs name quantum machine budget turns end told) old traced
  pub logs : IfNamed native (λ name. LogsAs name quantum machine budget turns end told) traced logged
  pub keeps : IfNamed journal (λ name. KeepsAs name front quantum machine budget turns end told) logged new

-- What a run makes of its files. One that stopped may not have made them all: it took no turn then.
abbrev pub WritesTexts : Option (List ℕ) → Option (List ℕ) → Option (List ℕ) → List ℕ → ℕ → Machine → ℕ → ℕ → Result Finish Stop → Contents → Contents → Stored → Stored → Type 0
WritesTexts trace native journal front quantum machine budget turns (Ok finish) before after old new =
    WritesEach trace native journal front quantum machine budget turns (Ok finish) before.left old new
WritesTexts trace native journal front quantum machine budget turns (Err stop) before after old new =
    WritesEach trace native journal front quantum machine budget turns (Err stop) before.left old new
    ⊎ IsUnbegun trace native journal turns stop before after old new
