-- How the settings and events read so far take one statement more: what the code keeps in place of the
-- whole list of statements. The grammar (Grammar.antt) does not speak of it.
use Rattle.std.specs.Prelude.{◌≡◌, ℕ, ◌+◌, ◌-◌, List, [], ◌∷◌, ◌++◌, length, slice_get, unwrap_or, Option, None, Some, Result, Ok, Err}
use Rattle.schedule.specs.declared.Schedule.{Schedule}
use Rattle.schedule.specs.declared.draft.Draft.{Draft}
use Rattle.schedule.specs.declared.draft.LineError.{LineError}
use Rattle.schedule.specs.declared.draft.LineError.TheVariants as fault
use Rattle.schedule.specs.declared.refusal.ScheduleRule.{ScheduleRule}
use Rattle.schedule.specs.declared.refusal.ScheduleRule.TheVariants as rule
use Rattle.schedule.specs.declared.refusal.ScheduleError.{ScheduleError}
use Rattle.schedule.specs.declared.refusal.ScheduleError.TheVariants as error
use Rattle.schedule.specs.declared.refusal.ScheduleRefusal.{ScheduleRefusal}
use Rattle.schedule.specs.declared.statement.Statement.{Statement}
use Rattle.schedule.specs.declared.statement.Statement.TheVariants as says
use Rattle.schedule.specs.Grammar.{setting_fault, event_fault, refused, go_on}
use Rattle.schedule.specs.Statement.{line_said}

-- nothing read yet
abbrev pub empty : Draft
empty = record { quantum = None; epoch = None; tty = None; random = None; events = [] }

-- a draft, unless a rule is broken
abbrev pub unless : Option ScheduleRule → Draft → Result Draft ScheduleRule
unless None draft = Ok draft
unless (Some broken) draft = Err broken

-- the draft with a statement more
abbrev pub with_statement : Draft → Statement → Result Draft ScheduleRule
with_statement d (says.Quantum n) = unless (setting_fault d.quantum d.events) (record d { quantum = Some n })
with_statement d (says.Epoch s n) = unless (setting_fault d.epoch d.events) (record d { epoch = Some (s, n) })
with_statement d (says.Tty size) = unless (setting_fault d.tty d.events) (record d { tty = Some size })
with_statement d (says.Random bytes) = unless (setting_fault d.random d.events) (record d { random = Some bytes })
with_statement d (says.At due) =
    unless (event_fault due.time (slice_get d.events (length d.events - 1))) (record d { events = d.events ++ due ∷ [] })

abbrev pub with_said : Draft → Result Statement ScheduleRule → Result Draft ScheduleRule
with_said d (Err broken) = Err broken
with_said d (Ok statement) = with_statement d statement

-- the draft with a line more
abbrev pub with_line : Draft → List ℕ → Result Draft ScheduleRule
with_line d line = with_said d (line_said line)

-- the draft at the end of the text
abbrev pub whole : Draft → ℕ → List ℕ → Result Draft ScheduleRefusal
whole d line [] = Ok d
whole d line (byte ∷ bytes) = Err (refused line rule.End)

-- the draft with all lines more, the first of which has the number line
abbrev pub with_lines : List (List ℕ) → Draft → ℕ → Result Draft ScheduleRefusal
with_lines [] d line = Ok d
with_lines (rest ∷ []) d line = whole d line rest
with_lines (text ∷ next ∷ more) d line =
    go_on line (with_line d text) (λ longer. with_lines (next ∷ more) longer (line + 1))

-- the schedule of a whole draft
abbrev pub schedule_from : Draft → Schedule
schedule_from d =
    record {
      quantum = unwrap_or d.quantum 1000;
      epoch_s = (unwrap_or d.epoch (0, 0)).0;
      epoch_n = (unwrap_or d.epoch (0, 0)).1;
      tty = d.tty;
      random = unwrap_or d.random (0 ∷ []);
      events = d.events;
      at = 0;
    }

-- what is told of a line that is not taken
abbrev pub error_at : LineError → ℕ → ScheduleError
error_at (fault.Broken broken) line = error.Refused (refused line broken)
error_at fault.NoMemory line = error.NoMemory

-- an answer is what is meant; want of memory says nothing
abbrev pub Means : {A : Type 0} → Result A LineError → Result A ScheduleRule → Type 0
Means (Ok value) meant = meant ≡ Ok value
Means (Err (fault.Broken broken)) meant = meant ≡ Err broken
Means (Err fault.NoMemory) meant = Unit {0}

-- the draft afterwards is what is meant; where a rule is broken or memory runs out, nothing is said of it
abbrev pub Leaves : {A : Type 0} → Result A LineError → Draft → Result Draft ScheduleRule → Type 0
Leaves (Ok value) after meant = meant ≡ Ok after
Leaves (Err (fault.Broken broken)) after meant = meant ≡ Err broken
Leaves (Err fault.NoMemory) after meant = Unit {0}

-- the same at the end of a text
abbrev pub GivesDraft : Result Draft ScheduleError → Result Draft ScheduleRefusal → Type 0
GivesDraft (Ok draft) meant = meant ≡ Ok draft
GivesDraft (Err (error.Refused refusal)) meant = meant ≡ Err refusal
GivesDraft (Err error.NoMemory) meant = Unit {0}

-- an error exactly where there is a fault, and that one
abbrev pub UnlessFault : {A : Type 0} → Result A LineError → Option ScheduleRule → Type 0
UnlessFault (Ok value) found = found ≡ None
UnlessFault (Err (fault.Broken broken)) found = found ≡ Some broken
UnlessFault (Err fault.NoMemory) found = ⊥
