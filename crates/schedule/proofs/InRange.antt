-- What a line says is in its range, and so is the schedule of all lines.
use Rattle.std.proofs.Common.{◌≡◌, ℕ, ◌+◌, ◌-◌, ◌*◌, ◌<◌, ◌≤◌, ◌^◌, ◌%◌, Bool, true, false, List, [], ◌∷◌, ◌++◌, length, All, Option, Some, None, Result, Ok, Err, IfOk, refl, arith, ap, subst, sym, ◌∙◌, eqb}
use Rattle.std.specs.Prelude.{◌&&◌, nat_le, nat_lt, ◌==◌, IfSome, unwrap_or, slice_get, if◌then◌else◌}
use Rattle.std.specs.List.{list_all}
use Rattle.std.specs.List.Sorted.{IsNonDecreasingBy}
use Rattle.std.proofs.lemmas.Bool.{leb-true, ltb-true, eqb-true}
use Rattle.std.proofs.lemmas.List.Elements.{All-append, All-cons, All-nil}
use Rattle.schedule.specs.declared.Schedule.{Schedule}
use Rattle.schedule.specs.declared.draft.Draft.{Draft}
use Rattle.schedule.specs.declared.events.Due.{Due}
use Rattle.schedule.specs.declared.events.Winsize.{Winsize}
use Rattle.schedule.specs.declared.refusal.ScheduleRule.{ScheduleRule}
use Rattle.schedule.specs.declared.refusal.ScheduleRule.TheVariants as rules
use Rattle.schedule.specs.declared.refusal.ScheduleError.{ScheduleError}
use Rattle.schedule.specs.declared.refusal.ScheduleRefusal.{ScheduleRefusal}
use Rattle.schedule.specs.declared.statement.Deed.{Deed}
use Rattle.schedule.specs.declared.statement.Deed.TheVariants as deeds
use Rattle.schedule.specs.declared.statement.Keyword.{Keyword}
use Rattle.schedule.specs.declared.statement.Keyword.TheVariants as keys
use Rattle.schedule.specs.declared.statement.Statement.{Statement}
use Rattle.schedule.specs.declared.statement.Statement.TheVariants as says
use Rattle.schedule.specs.declared.text.Bounds.{Bounds}
use Rattle.schedule.specs.Grammar.{setting_fault, event_fault, go_on}
use Rattle.schedule.specs.Ranges.{between, quantum_range, seconds_range, nanoseconds_range, side_range, time_range, signal_range, value_range, most_bytes, IsWithin, IsDueInRange, IsInRange, IsGivenSchedule}
use Rattle.schedule.specs.Statement.{◌>>=◌, keyword_of, deed_of, quantum_said, epoch_said, tty_said, random_said, kill_said, queue_said, deed_said, event_said, row_said, words_said, line_said}
use Rattle.schedule.specs.Text.{words_of, lines_of, is_printed, is_number, is_hexadecimal, are_bytes, bytes_of, number_of, within, both, all_three, number_said, pair_said, triple_said}
use Rattle.schedule.specs.inside.Draft.{empty, unless, with_statement, with_said, with_line, with_lines, schedule_from}
use Rattle.schedule.proofs.InTurn.{unless_ok, in_order-whole}

and_true : (a b : Bool) → (a && b) ≡ true → (a ≡ true) × (b ≡ true)
and_true true b holds = (refl, holds)
and_true false b holds = cc

within-range : (bounds : Bounds) (n v : ℕ) → within bounds n ≡ Ok v → IsWithin bounds v
within-range bounds n v said =
    elim (nat_le bounds.least n && nat_le n bounds.most) as (λ b. (nat_le bounds.least n && nat_le n bounds.most) ≡ b → (if b then Ok n else Err rules.Range) ≡ Ok v → IsWithin bounds v) [
      | true ↦ λ holds e.
          let parts = and_true (nat_le bounds.least n) (nat_le n bounds.most) holds in
          let low : bounds.least ≤ n = leb-true _ _ parts.0 in
          let high : n ≤ bounds.most = leb-true _ _ parts.1 in
          let same : n ≡ v = cc in
          record { least = omega arith; most = omega arith }
      | false ↦ λ fails e. absurd (cc)
    ] refl said

number_said-range : (bounds : Bounds) (word : List ℕ) (v : ℕ) → number_said bounds word ≡ Ok v → IsWithin bounds v
number_said-range bounds word v said =
    elim (is_number word) as (λ b. (if b then within bounds (number_of word) else Err rules.Form) ≡ Ok v → IsWithin bounds v) [
      | true ↦ λ e. within-range bounds (number_of word) v e
      | false ↦ λ e. absurd (cc)
    ] said

both-ok : (a b : Result ℕ ScheduleRule) (v : ℕ × ℕ) → both a b ≡ Ok v → (a ≡ Ok v.0) × (b ≡ Ok v.1)
both-ok (Err broken) b v said = absurd (cc)
both-ok (Ok x) (Err broken) v said = absurd (cc)
both-ok (Ok x) (Ok y) v said =
    let same : (x, y) ≡ v = cc in
    (ap (λ (p : ℕ × ℕ). Ok p.0) same, ap (λ (p : ℕ × ℕ). Ok p.1) same)

pair_said-range : (first second : Bounds) (a b : List ℕ) (v : ℕ × ℕ) → pair_said first second a b ≡ Ok v → IsWithin first v.0 × IsWithin second v.1
pair_said-range first second a b v said =
    elim (is_number a && is_number b) as (λ t. (if t then both (within first (number_of a)) (within second (number_of b)) else Err rules.Form) ≡ Ok v → IsWithin first v.0 × IsWithin second v.1) [
      | true ↦ λ e.
          let ok = both-ok (within first (number_of a)) (within second (number_of b)) v e in
          (within-range first (number_of a) v.0 ok.0, within-range second (number_of b) v.1 ok.1)
      | false ↦ λ e. absurd (cc)
    ] said

all_three-ok : (a b c : Result ℕ ScheduleRule) (v : ℕ × ℕ × ℕ) → all_three a b c ≡ Ok v → (a ≡ Ok v.0) × (b ≡ Ok v.1) × (c ≡ Ok v.2)
all_three-ok (Err broken) b c v said = absurd (cc)
all_three-ok (Ok x) (Err broken) c v said = absurd (cc)
all_three-ok (Ok x) (Ok y) (Err broken) v said = absurd (cc)
all_three-ok (Ok x) (Ok y) (Ok z) v said =
    let same : (x, y, z) ≡ v = cc in
    (ap (λ (p : ℕ × ℕ × ℕ). Ok p.0) same, ap (λ (p : ℕ × ℕ × ℕ). Ok p.1) same, ap (λ (p : ℕ × ℕ × ℕ). Ok p.2) same)

triple_said-range : (first second third : Bounds) (a b c : List ℕ) (v : ℕ × ℕ × ℕ) → triple_said first second third a b c ≡ Ok v → IsWithin first v.0 × IsWithin second v.1 × IsWithin third v.2
triple_said-range first second third a b c v said =
    elim (is_number a && is_number b && is_number c) as (λ t. (if t then all_three (within first (number_of a)) (within second (number_of b)) (within third (number_of c)) else Err rules.Form) ≡ Ok v → IsWithin first v.0 × IsWithin second v.1 × IsWithin third v.2) [
      | true ↦ λ e.
          let ok = all_three-ok (within first (number_of a)) (within second (number_of b)) (within third (number_of c)) v e in
          (within-range first (number_of a) v.0 ok.0, within-range second (number_of b) v.1 ok.1, within-range third (number_of c) v.2 ok.2)
      | false ↦ λ e. absurd (cc)
    ] said

-- a value that was read is what was said of it
bind-ok : {A B : Type 0} (r : Result A ScheduleRule) (say : A → Result B ScheduleRule) (s : B) → (r >>= say) ≡ Ok s → (v : A) × (r ≡ Ok v) × (say v ≡ Ok s)
bind-ok (Ok x) say s said = (x, refl, said)
bind-ok (Err broken) say s said = absurd (cc)

-- what a line says is in its range
record IsTimeInRange (time : ℕ × ℕ) : Type 0 where
  seconds : IsWithin seconds_range time.0
  nanoseconds : IsWithin nanoseconds_range time.1

record AreBytesInRange (bytes : List ℕ) : Type 0 where
  count : IsWithin (between 1 most_bytes) (length bytes)

abbrev IsSaidInRange : Statement → Type 0
IsSaidInRange (says.Quantum n) = IsWithin quantum_range n
IsSaidInRange (says.Epoch s n) = IsTimeInRange (s, n)
IsSaidInRange (says.Tty size) = Unit {0}
IsSaidInRange (says.Random bytes) = AreBytesInRange bytes
IsSaidInRange (says.At due) = IsDueInRange due

quantum_said-range : (words : List (List ℕ)) (s : Statement) → quantum_said words ≡ Ok s → IsSaidInRange s
quantum_said-range [] s said = absurd (cc)
quantum_said-range (n ∷ m ∷ more) s said = absurd (cc)
quantum_said-range (n ∷ []) s said =
    let ok = bind-ok (number_said quantum_range n) (λ v. Ok (says.Quantum v)) s said in
    let same : says.Quantum ok.0 ≡ s = cc ok.2 in
    let F : Statement → Type 0 = IsSaidInRange in
    subst F same (number_said-range quantum_range n ok.0 ok.1)

epoch_said-range : (words : List (List ℕ)) (s : Statement) → epoch_said words ≡ Ok s → IsSaidInRange s
epoch_said-range [] s said = absurd (cc)
epoch_said-range (n ∷ []) s said = absurd (cc)
epoch_said-range (n ∷ m ∷ k ∷ more) s said = absurd (cc)
epoch_said-range (a ∷ b ∷ []) s said =
    let ok = bind-ok (pair_said seconds_range nanoseconds_range a b) (λ v. Ok (says.Epoch v.0 v.1)) s said in
    let same : says.Epoch ok.0.0 ok.0.1 ≡ s = cc ok.2 in
    let ranges = pair_said-range seconds_range nanoseconds_range a b ok.0 ok.1 in
    let F : Statement → Type 0 = IsSaidInRange in
    subst F same (record { seconds = ranges.0; nanoseconds = ranges.1 })

tty_said-range : (words : List (List ℕ)) (s : Statement) → tty_said words ≡ Ok s → IsSaidInRange s
tty_said-range [] s said = absurd (cc)
tty_said-range (n ∷ []) s said = absurd (cc)
tty_said-range (n ∷ m ∷ k ∷ more) s said = absurd (cc)
tty_said-range (a ∷ b ∷ []) s said =
    let ok = bind-ok (pair_said side_range side_range a b) (λ v. Ok (says.Tty (record { rows = v.0; cols = v.1 }))) s said in
    let same : says.Tty (record { rows = ok.0.0; cols = ok.0.1 }) ≡ s = cc ok.2 in
    let F : Statement → Type 0 = IsSaidInRange in
    subst F same tt

-- two digits are a byte
twice-length-bytes_of : (digits : List ℕ) → (2 * length (bytes_of digits) ≤ length digits) × (length digits ≤ 2 * length (bytes_of digits) + 1)
twice-length-bytes_of [] = (omega arith, omega arith)
twice-length-bytes_of (digit ∷ []) = (omega arith, omega arith)
twice-length-bytes_of (high ∷ low ∷ more) =
    let rest = twice-length-bytes_of more in
    (omega (arith, rest.0, rest.1), omega (arith, rest.0, rest.1))

random_said-range : (words : List (List ℕ)) (s : Statement) → random_said words ≡ Ok s → IsSaidInRange s
random_said-range [] s said = absurd (cc)
random_said-range (n ∷ m ∷ more) s said = absurd (cc)
random_said-range (hex ∷ []) s said =
    elim (are_bytes hex) as (λ b. are_bytes hex ≡ b → (if b then (if nat_le (length hex) (2 * most_bytes) then Ok (says.Random (bytes_of hex)) else Err rules.Range) else Err rules.Form) ≡ Ok s → IsSaidInRange s) [
      | true ↦ λ holds e. few holds e
      | false ↦ λ fails e. absurd (cc)
    ] refl said
  where
    few : are_bytes hex ≡ true → (if nat_le (length hex) (2 * most_bytes) then Ok (says.Random (bytes_of hex)) else Err rules.Range) ≡ Ok s → IsSaidInRange s
    few holds told =
        elim (nat_le (length hex) (2 * most_bytes)) as (λ b. nat_le (length hex) (2 * most_bytes) ≡ b → (if b then Ok (says.Random (bytes_of hex)) else Err rules.Range) ≡ Ok s → IsSaidInRange s) [
          | true ↦ λ short e.
              let front = and_true (nat_lt 0 (length hex) && (length hex % 2 == 0)) (list_all is_hexadecimal hex) holds in
              let parts = and_true (nat_lt 0 (length hex)) (length hex % 2 == 0) front.0 in
              let some : 0 < length hex = ltb-true _ _ parts.0 in
              let even : length hex % 2 ≡ 0 = eqb-true _ _ parts.1 in
              let high : length hex ≤ 2 * most_bytes = leb-true _ _ short in
              let half = twice-length-bytes_of hex in
              let same : says.Random (bytes_of hex) ≡ s = cc in
              let F : Statement → Type 0 = IsSaidInRange in
              subst F same (record { count = record { least = omega (arith, half.0, half.1); most = omega (arith, half.0, half.1) } })
          | false ↦ λ long e. absurd (cc)
        ] refl told

kill_said-range : (t : List ℕ) (words : List (List ℕ)) (s : Statement) → kill_said t words ≡ Ok s → IsSaidInRange s
kill_said-range t [] s said = absurd (cc)
kill_said-range t (n ∷ m ∷ more) s said = absurd (cc)
kill_said-range t (signal ∷ []) s said =
    let ok = bind-ok (pair_said time_range signal_range t signal) (λ v. Ok (says.At (record { time = v.0; sig = v.1; value = None }))) s said in
    let same : says.At (record { time = ok.0.0; sig = ok.0.1; value = None }) ≡ s = cc ok.2 in
    let ranges = pair_said-range time_range signal_range t signal ok.0 ok.1 in
    let F : Statement → Type 0 = IsSaidInRange in
    subst F same (record { time = ranges.0; signal = ranges.1 })

queue_said-range : (t : List ℕ) (words : List (List ℕ)) (s : Statement) → queue_said t words ≡ Ok s → IsSaidInRange s
queue_said-range t [] s said = absurd (cc)
queue_said-range t (n ∷ []) s said = absurd (cc)
queue_said-range t (n ∷ m ∷ k ∷ more) s said = absurd (cc)
queue_said-range t (signal ∷ value ∷ []) s said =
    let ok = bind-ok (triple_said time_range signal_range value_range t signal value) (λ n. Ok (says.At (record { time = n.0; sig = n.1; value = Some n.2 }))) s said in
    let same : says.At (record { time = ok.0.0; sig = ok.0.1; value = Some ok.0.2 }) ≡ s = cc ok.2 in
    let ranges = triple_said-range time_range signal_range value_range t signal value ok.0 ok.1 in
    let F : Statement → Type 0 = IsSaidInRange in
    subst F same (record { time = ranges.0; signal = ranges.1 })

deed_said-range : (deed : Option Deed) (t : List ℕ) (words : List (List ℕ)) (s : Statement) → deed_said deed t words ≡ Ok s → IsSaidInRange s
deed_said-range None t words s said = absurd (cc)
deed_said-range (Some deeds.Kill) t words s said = kill_said-range t words s said
deed_said-range (Some deeds.Queue) t words s said = queue_said-range t words s said

event_said-range : (words : List (List ℕ)) (s : Statement) → event_said words ≡ Ok s → IsSaidInRange s
event_said-range [] s said = absurd (cc)
event_said-range (t ∷ []) s said = absurd (cc)
event_said-range (t ∷ third ∷ more) s said = deed_said-range (deed_of third) t more s said

row_said-range : (keyword : Option Keyword) (words : List (List ℕ)) (s : Statement) → row_said keyword words ≡ Ok s → IsSaidInRange s
row_said-range None words s said = absurd (cc)
row_said-range (Some keys.Quantum) words s said = quantum_said-range words s said
row_said-range (Some keys.Epoch) words s said = epoch_said-range words s said
row_said-range (Some keys.Tty) words s said = tty_said-range words s said
row_said-range (Some keys.Random) words s said = random_said-range words s said
row_said-range (Some keys.At) words s said = event_said-range words s said

words_said-range : (words : List (List ℕ)) (s : Statement) → words_said words ≡ Ok s → IsSaidInRange s
words_said-range [] s said = absurd (cc)
words_said-range (first ∷ more) s said = row_said-range (keyword_of first) more s said

line_said-range : (line : List ℕ) (s : Statement) → line_said line ≡ Ok s → IsSaidInRange s
line_said-range line s said =
    elim (list_all is_printed line) as (λ b. (if b then words_said (words_of line) else Err rules.Ascii) ≡ Ok s → IsSaidInRange s) [
      | true ↦ λ e. words_said-range (words_of line) s e
      | false ↦ λ e. absurd (cc)
    ] said

-- what is read so far is in its ranges
record IsDraftInRange (d : Draft) : Type 0 where
  quantum : IfSome d.quantum (IsWithin quantum_range)
  epoch : IfSome d.epoch IsTimeInRange
  random : IfSome d.random AreBytesInRange
  events : All IsDueInRange d.events

in_range-same : (f : Option ScheduleRule) (d new : Draft) → IsDraftInRange d → unless f d ≡ Ok new → IsDraftInRange new
in_range-same f d new ranges taken =
    let F : Draft → Type 0 = IsDraftInRange in
    subst F (unless_ok f d new taken).1 ranges

in_range-statement : (d new : Draft) (s : Statement) → IsDraftInRange d → IsSaidInRange s → with_statement d s ≡ Ok new → IsDraftInRange new
in_range-statement d new (says.Quantum n) ranges said taken =
    in_range-same _ (record d { quantum = Some n }) new (record { quantum = said; epoch = ranges.epoch; random = ranges.random; events = ranges.events }) taken
in_range-statement d new (says.Epoch a b) ranges said taken =
    in_range-same _ (record d { epoch = Some (a, b) }) new (record { quantum = ranges.quantum; epoch = said; random = ranges.random; events = ranges.events }) taken
in_range-statement d new (says.Tty size) ranges said taken =
    in_range-same _ (record d { tty = Some size }) new (record { quantum = ranges.quantum; epoch = ranges.epoch; random = ranges.random; events = ranges.events }) taken
in_range-statement d new (says.Random bytes) ranges said taken =
    in_range-same _ (record d { random = Some bytes }) new (record { quantum = ranges.quantum; epoch = ranges.epoch; random = said; events = ranges.events }) taken
in_range-statement d new (says.At due) ranges said taken =
    let more : All IsDueInRange (d.events ++ due ∷ []) = All-append IsDueInRange d.events (due ∷ []) ranges.events (All-cons IsDueInRange due [] said (All-nil IsDueInRange)) in
    in_range-same _ (record d { events = d.events ++ due ∷ [] }) new (record { quantum = ranges.quantum; epoch = ranges.epoch; random = ranges.random; events = more }) taken

in_range-said : (d new : Draft) (line : List ℕ) (r : Result Statement ScheduleRule) → line_said line ≡ r → IsDraftInRange d → with_said d r ≡ Ok new → IsDraftInRange new
in_range-said d new line (Ok s) is ranges taken = in_range-statement d new s ranges (line_said-range line s is) taken
in_range-said d new line (Err broken) is ranges taken = absurd (cc)

in_range-on : (ps : List (List ℕ)) (line : ℕ) (end : Draft) (r : Result Draft ScheduleRule) → ((longer : Draft) → r ≡ Ok longer → IsDraftInRange longer) → ((longer : Draft) → IsDraftInRange longer → with_lines ps longer (line + 1) ≡ Ok end → IsDraftInRange end) → go_on line r (λ d. with_lines ps d (line + 1)) ≡ Ok end → IsDraftInRange end
in_range-on ps line end (Ok longer) ranges on told = on longer (ranges longer refl) told
in_range-on ps line end (Err broken) ranges on told = absurd (cc)

in_range-lines : (ps : List (List ℕ)) (d end : Draft) (line : ℕ) → IsDraftInRange d → with_lines ps d line ≡ Ok end → IsDraftInRange end
in_range-lines [] d end line ranges told =
    let F : Draft → Type 0 = IsDraftInRange in
    let same : d ≡ end = cc in
    subst F same ranges
in_range-lines ([] ∷ []) d end line ranges told =
    let F : Draft → Type 0 = IsDraftInRange in
    let same : d ≡ end = cc in
    subst F same ranges
in_range-lines ((byte ∷ bytes) ∷ []) d end line ranges told = absurd (cc)
in_range-lines (text ∷ next ∷ more) d end line ranges told =
    in_range-on (next ∷ more) line end (with_line d text) (λ longer taken. in_range-said d longer text (line_said text) refl ranges taken) (λ longer r t. in_range-lines (next ∷ more) longer end (line + 1) r t) told

-- the settings that stand nowhere have values in their ranges
quantum-in_range : (o : Option ℕ) → IfSome o (IsWithin quantum_range) → IsWithin quantum_range (unwrap_or o 1000)
quantum-in_range None range = record { least = omega arith; most = omega arith }
quantum-in_range (Some n) range = range

epoch-in_range : (o : Option (ℕ × ℕ)) → IfSome o IsTimeInRange → IsTimeInRange (unwrap_or o (0, 0))
epoch-in_range None range = record { seconds = record { least = omega arith; most = omega arith }; nanoseconds = record { least = omega arith; most = omega arith } }
epoch-in_range (Some time) range = range

random-in_range : (o : Option (List ℕ)) → IfSome o AreBytesInRange → AreBytesInRange (unwrap_or o (0 ∷ []))
random-in_range None range = record { count = record { least = omega arith; most = omega arith } }
random-in_range (Some bytes) range = range

in_range-from : (d : Draft) → IsDraftInRange d → IsInRange (schedule_from d)
in_range-from d ranges =
    let epoch = epoch-in_range d.epoch ranges.epoch in
    record {
      quantum = quantum-in_range d.quantum ranges.quantum;
      seconds = epoch.seconds;
      nanoseconds = epoch.nanoseconds;
      bytes = (random-in_range d.random ranges.random).count;
      events = ranges.events;
    }

none_in_range : IsDraftInRange empty
none_in_range = record { quantum = tt; epoch = tt; random = tt; events = All-nil IsDueInRange }

-- the schedule of all lines is in its ranges
pub in_range-whole : (text : List ℕ) (d : Draft) (r : Result Schedule ScheduleError) → with_lines (lines_of text) empty 1 ≡ Ok d → IfOk r (λ s. s ≡ schedule_from d) → IfOk r IsInRange
in_range-whole text d (Ok s) told ok =
    let F : Schedule → Type 0 = IsInRange in
    subst F (sym ok) (in_range-from d (in_range-lines (lines_of text) empty d 1 none_in_range told))
in_range-whole text d (Err e) told ok = tt

-- so it is one that reading gives
pub given-whole : (text : List ℕ) (d : Draft) (r : Result Schedule ScheduleError) → with_lines (lines_of text) empty 1 ≡ Ok d → IfOk r (λ s. s ≡ schedule_from d) → IfOk r IsGivenSchedule
given-whole text d (Ok s) told ok =
    let first : s.at ≡ 0 = ap (λ (x : Schedule). x.at) ok in
    record { in_range = in_range-whole text d (Ok s) told ok; ordered = in_order-whole text d (Ok s) told ok; cursor = omega arith }
given-whole text d (Err e) told ok = tt
