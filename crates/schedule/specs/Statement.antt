-- What one line of a schedule says, and which of the rules that speak of one line it breaks first:
-- Ascii, Word, Form, Range. One row a kind of line, each with the ranges of its numbers. This project's
-- own format.
use Rattle.std.specs.Prelude.{ℕ, ◌*◌, nat_le, List, [], ◌∷◌, length, if◌then◌else◌, codes, bytes_eq, Option, None, Some, Result, Ok, Err}
use Rattle.std.specs.List.{list_all}
use Rattle.schedule.specs.declared.refusal.ScheduleRule.{ScheduleRule}
use Rattle.schedule.specs.declared.refusal.ScheduleRule.TheVariants as rule
use Rattle.schedule.specs.declared.statement.Deed.{Deed}
use Rattle.schedule.specs.declared.statement.Deed.TheVariants as deed
use Rattle.schedule.specs.declared.statement.Keyword.{Keyword}
use Rattle.schedule.specs.declared.statement.Keyword.TheVariants as key
use Rattle.schedule.specs.declared.statement.Statement.{Statement}
use Rattle.schedule.specs.declared.statement.Statement.TheVariants as says
use Rattle.schedule.specs.Ranges.{quantum_range, seconds_range, nanoseconds_range, side_range, time_range, signal_range, value_range, most_bytes}
use Rattle.schedule.specs.Text.{words_of, is_printed, are_bytes, bytes_of, number_said, pair_said, triple_said}

-- the kinds of lines, by their first words
abbrev pub keyword_of : List ℕ → Option Keyword
keyword_of word =
    if bytes_eq word (codes "quantum") then Some key.Quantum else
    if bytes_eq word (codes "epoch") then Some key.Epoch else
    if bytes_eq word (codes "tty") then Some key.Tty else
    if bytes_eq word (codes "random") then Some key.Random else
    if bytes_eq word (codes "at") then Some key.At else None

-- what happens at a time, by the third word of `at`
abbrev pub deed_of : List ℕ → Option Deed
deed_of word =
    if bytes_eq word (codes "kill") then Some deed.Kill else
    if bytes_eq word (codes "queue") then Some deed.Queue else None

-- what is said of a value that was read
infixl 10 ◌>>=◌
abbrev pub ◌>>=◌ : {A B : Type 0} → Result A ScheduleRule → (A → Result B ScheduleRule) → Result B ScheduleRule
(Ok x) >>= say = say x
(Err broken) >>= say = Err broken

-- quantum N: nanoseconds a turn
abbrev pub quantum_said : List (List ℕ) → Result Statement ScheduleRule
quantum_said (n ∷ []) = number_said quantum_range n >>= λ v. Ok (says.Quantum v)
quantum_said words = Err rule.Form

-- epoch S N: seconds, and nanoseconds below a second
abbrev pub epoch_said : List (List ℕ) → Result Statement ScheduleRule
epoch_said (s ∷ n ∷ []) = pair_said seconds_range nanoseconds_range s n >>= λ v. Ok (says.Epoch v.0 v.1)
epoch_said words = Err rule.Form

-- tty R C: rows and columns of a terminal
abbrev pub tty_said : List (List ℕ) → Result Statement ScheduleRule
tty_said (r ∷ c ∷ []) =
    pair_said side_range side_range r c >>= λ v. Ok (says.Tty (record { rows = v.0; cols = v.1 }))
tty_said words = Err rule.Form

-- random HEX: 1 to 4096 bytes, two digits each
abbrev pub random_said : List (List ℕ) → Result Statement ScheduleRule
random_said (hex ∷ []) =
    if are_bytes hex then (if nat_le (length hex) (2 * most_bytes) then Ok (says.Random (bytes_of hex)) else Err rule.Range)
    else Err rule.Form
random_said words = Err rule.Form

-- at T kill S: the signal of that o32 number comes at that time, in nanoseconds
abbrev pub kill_said : List ℕ → List (List ℕ) → Result Statement ScheduleRule
kill_said t (s ∷ []) =
    pair_said time_range signal_range t s
    >>= λ v. Ok (says.At (record { time = v.0; sig = v.1; value = None }))
kill_said t words = Err rule.Form

-- at T queue S V: the same with a value
abbrev pub queue_said : List ℕ → List (List ℕ) → Result Statement ScheduleRule
queue_said t (s ∷ v ∷ []) =
    triple_said time_range signal_range value_range t s v
    >>= λ n. Ok (says.At (record { time = n.0; sig = n.1; value = Some n.2 }))
queue_said t words = Err rule.Form

abbrev pub deed_said : Option Deed → List ℕ → List (List ℕ) → Result Statement ScheduleRule
deed_said None t words = Err rule.Word
deed_said (Some deed.Kill) t words = kill_said t words
deed_said (Some deed.Queue) t words = queue_said t words

-- at T and a known word; where the third word is missing, the number of words is wrong
abbrev pub event_said : List (List ℕ) → Result Statement ScheduleRule
event_said (t ∷ third ∷ more) = deed_said (deed_of third) t more
event_said words = Err rule.Form

abbrev pub row_said : Option Keyword → List (List ℕ) → Result Statement ScheduleRule
row_said None words = Err rule.Word
row_said (Some key.Quantum) words = quantum_said words
row_said (Some key.Epoch) words = epoch_said words
row_said (Some key.Tty) words = tty_said words
row_said (Some key.Random) words = random_said words
row_said (Some key.At) words = event_said words

abbrev pub words_said : List (List ℕ) → Result Statement ScheduleRule
words_said [] = Err rule.Word
words_said (first ∷ more) = row_said (keyword_of first) more

-- what a line says by itself, or the first rule that it breaks by itself
abbrev pub line_said : List ℕ → Result Statement ScheduleRule
line_said line = if list_all is_printed line then words_said (words_of line) else Err rule.Ascii
