-- What a text says as a schedule, or the first line that breaks a rule, with the first rule that it
-- breaks. The rules that speak of the lines above (Twice, Late, Order) are stated over the whole list of
-- what the lines above say. This project's own format.
use Rattle.std.specs.Prelude.{◌≡◌, ℕ, ◌+◌, ◌-◌, ◌<◌, ◌≤◌, ◌==◌, nat_lt, Bool, true, false, take, position, slice_index_or, option_map, List, [], ◌∷◌, ◌++◌, length, filter_map, slice_get, if◌then◌else◌, unwrap_or, Option, None, Some, Result, Ok, Err}
use Rattle.schedule.specs.declared.Schedule.{Schedule}
use Rattle.schedule.specs.declared.events.Due.{Due}
use Rattle.schedule.specs.declared.refusal.ScheduleRule.{ScheduleRule}
use Rattle.schedule.specs.declared.refusal.ScheduleRule.TheVariants as rule
use Rattle.schedule.specs.declared.refusal.ScheduleError.{ScheduleError}
use Rattle.schedule.specs.declared.refusal.ScheduleError.TheVariants as error
use Rattle.schedule.specs.declared.refusal.ScheduleRefusal.{ScheduleRefusal}
use Rattle.schedule.specs.declared.statement.Statement.{Statement}
use Rattle.schedule.specs.declared.statement.Statement.TheVariants as says
use Rattle.schedule.specs.declared.events.Winsize.{Winsize}
use Rattle.schedule.specs.declared.statement.Keyword.{Keyword}
use Rattle.schedule.specs.declared.statement.Keyword.TheVariants as key
use Rattle.schedule.specs.Statement.{keyword_of, line_said}
use Rattle.schedule.specs.Text.{lines_of, words_of}

-- the numbers of the rules, as a refusal shows them
abbrev pub number_of_rule : ScheduleRule → ℕ
number_of_rule rule.Ascii = 1
number_of_rule rule.Word = 2
number_of_rule rule.Form = 3
number_of_rule rule.Range = 4
number_of_rule rule.Twice = 5
number_of_rule rule.Late = 6
number_of_rule rule.Order = 7
number_of_rule rule.End = 8

-- what a statement says of each setting, and of events
abbrev pub quantum_in : Statement → Option ℕ
quantum_in (says.Quantum n) = Some n
quantum_in _ = None

abbrev pub epoch_in : Statement → Option (ℕ × ℕ)
epoch_in (says.Epoch seconds nanoseconds) = Some (seconds, nanoseconds)
epoch_in _ = None

abbrev pub tty_in : Statement → Option Winsize
tty_in (says.Tty size) = Some size
tty_in _ = None

abbrev pub random_in : Statement → Option (List ℕ)
random_in (says.Random bytes) = Some bytes
random_in _ = None

abbrev pub event_in : Statement → Option Due
event_in (says.At due) = Some due
event_in _ = None

-- the first of some statements that says something of a kind
abbrev pub first_in : {A : Type 0} → (Statement → Option A) → List Statement → Option A
first_in kind statements = slice_get (filter_map kind statements) 0

-- the events of some statements, in their order
abbrev pub events_in : List Statement → List Due
events_in statements = filter_map event_in statements

-- a setting below one of its kind, or below an event
abbrev pub setting_fault : {A : Type 0} → Option A → List Due → Option ScheduleRule
setting_fault (Some above) events = Some rule.Twice
setting_fault None (event ∷ events) = Some rule.Late
setting_fault None [] = None

-- an event below one of a later time
abbrev pub event_fault : ℕ → Option Due → Option ScheduleRule
event_fault time None = None
event_fault time (Some before) = if nat_lt time before.time then Some rule.Order else None

-- the rule that a statement breaks below those above
abbrev pub fault_below : List Statement → Statement → Option ScheduleRule
fault_below above (says.Quantum n) = setting_fault (first_in quantum_in above) (events_in above)
fault_below above (says.Epoch s n) = setting_fault (first_in epoch_in above) (events_in above)
fault_below above (says.Tty size) = setting_fault (first_in tty_in above) (events_in above)
fault_below above (says.Random bytes) = setting_fault (first_in random_in above) (events_in above)
fault_below above (says.At due) = event_fault due.time (slice_get (events_in above) (length (events_in above) - 1))

-- what a line says below those above, or the first of the rules from Ascii to Order that it breaks
abbrev pub unless_broken : Statement → Option ScheduleRule → Result Statement ScheduleRule
unless_broken statement None = Ok statement
unless_broken statement (Some broken) = Err broken

abbrev pub said_below : List Statement → Result Statement ScheduleRule → Result Statement ScheduleRule
said_below above (Err broken) = Err broken
said_below above (Ok statement) = unless_broken statement (fault_below above statement)

-- a refusal at a line
abbrev pub refused : ℕ → ScheduleRule → ScheduleRefusal
refused line broken = record { line = line; rule = number_of_rule broken }

-- on behind a line that breaks no rule, else a refusal there
abbrev pub go_on : {A B : Type 0} → ℕ → Result A ScheduleRule → (A → Result B ScheduleRefusal) → Result B ScheduleRefusal
go_on line (Ok said) more = more said
go_on line (Err broken) more = Err (refused line broken)

-- What stands behind the last newline has to be empty: else it is a last line with no newline, and End
-- comes before its other rules.
abbrev pub at_end : List Statement → ℕ → List ℕ → Result (List Statement) ScheduleRefusal
at_end above line [] = Ok above
at_end above line (byte ∷ bytes) = Err (refused line rule.End)

-- What lines say in turn, behind what the lines above say, or the first of them that breaks a rule. The
-- last piece is what stands behind the last newline.
abbrev pub said_in_turn : List (List ℕ) → List Statement → ℕ → Result (List Statement) ScheduleRefusal
said_in_turn [] above line = Ok above
said_in_turn (rest ∷ []) above line = at_end above line rest
said_in_turn (text ∷ next ∷ more) above line =
    go_on line (said_below above (line_said text)) (λ s. said_in_turn (next ∷ more) (above ++ s ∷ []) (line + 1))

-- the schedule of all statements of a text, with the value of each setting that stands nowhere
abbrev pub schedule_of : List Statement → Schedule
schedule_of statements =
    record {
      quantum = unwrap_or (first_in quantum_in statements) 1000;
      epoch_s = (unwrap_or (first_in epoch_in statements) (0, 0)).0;
      epoch_n = (unwrap_or (first_in epoch_in statements) (0, 0)).1;
      tty = first_in tty_in statements;
      random = unwrap_or (first_in random_in statements) (0 ∷ []);
      events = events_in statements;
      at = 0;
    }

abbrev pub schedule_said : Result (List Statement) ScheduleRefusal → Result Schedule ScheduleRefusal
schedule_said (Ok statements) = Ok (schedule_of statements)
schedule_said (Err refusal) = Err refusal

-- what a text says: a schedule, or the first line that breaks a rule, counted from 1, and the first rule
-- that it breaks
unfoldable pub meaning_of : List ℕ → Result Schedule ScheduleRefusal
meaning_of text = schedule_said (said_in_turn (lines_of text) [] 1)

-- an answer is that meaning; want of memory says nothing
abbrev pub Gives : Result Schedule ScheduleError → Result Schedule ScheduleRefusal → Type 0
Gives (Ok schedule) meaning = meaning ≡ Ok schedule
Gives (Err (error.Refused refusal)) meaning = meaning ≡ Err refusal
Gives (Err error.NoMemory) meaning = Unit {0}

-- The same without a turn, by the whole list of lines.

-- what some lines say by themselves, without those that say nothing
abbrev pub said_alone : Result Statement ScheduleRule → Option Statement
said_alone (Ok statement) = Some statement
said_alone (Err broken) = None

abbrev pub all_said : List (List ℕ) → List Statement
all_said lines = filter_map (λ line. said_alone (line_said line)) lines

abbrev pub fault_of : Result Statement ScheduleRule → Option ScheduleRule
fault_of (Ok statement) = None
fault_of (Err broken) = Some broken

abbrev pub fault_at_end : List ℕ → Option ScheduleRule
fault_at_end [] = None
fault_at_end (byte ∷ bytes) = Some rule.End

-- the first rule that the line at a place breaks, counted from 0, below all lines above it
abbrev pub fault_at : List (List ℕ) → ℕ → Option ScheduleRule
fault_at lines place =
    if place + 1 == length lines then fault_at_end (slice_index_or lines place [])
    else fault_of (said_below (all_said (take place lines)) (line_said (slice_index_or lines place [])))

-- no line before a place breaks a rule
abbrev pub AreSoundBefore : List (List ℕ) → ℕ → Type 0
AreSoundBefore lines place = (k : ℕ) → k < place → fault_at lines k ≡ None

-- a text whose lines break no rule, and the schedule that they say
pub record IsSchedule (text : List ℕ) (schedule : Schedule) : Type 0 where
  pub sound : AreSoundBefore (lines_of text) (length (lines_of text))
  pub value : schedule ≡ schedule_of (all_said (lines_of text))

-- the first line of a text that breaks a rule, counted from 1, and the first rule that it breaks
pub record IsFirstFault (text : List ℕ) (refusal : ScheduleRefusal) : Type 0 where
  pub counted : 0 < refusal.line
  pub within : refusal.line ≤ length (lines_of text)
  pub sound : AreSoundBefore (lines_of text) (refusal.line - 1)
  pub fault : option_map number_of_rule (fault_at (lines_of text) (refusal.line - 1)) ≡ Some refusal.rule

-- a refusal names the first fault; want of memory says nothing
abbrev pub NamesFirstFault : List ℕ → ScheduleError → Type 0
NamesFirstFault text (error.Refused refusal) = IsFirstFault text refusal
NamesFirstFault text error.NoMemory = Unit {0}

-- The line of the first event.

-- a line of an event, by its first word
abbrev pub is_event : Option Keyword → Bool
is_event (Some key.At) = true
is_event _ = false

abbrev pub starts_event : List (List ℕ) → Bool
starts_event [] = false
starts_event (first ∷ more) = is_event (keyword_of first)

-- the first such line, counted from 1
abbrev pub first_event_line : List ℕ → Option ℕ
first_event_line text = option_map (λ place. place + 1) (position (λ line. starts_event (words_of line)) (lines_of text))
