-- The draft of the lines read so far stands for the whole list of what they say.
use Rattle.std.proofs.Common.{◌≡◌, ℕ, ◌+◌, ◌-◌, ◌≤◌, Bool, true, false, cond, ltb, List, [], ◌∷◌, ◌++◌, length, get_or, Option, Some, None, Result, Ok, Err, refl, arith, ap, subst, sym, ◌∙◌, IfOk, IfErr}
use Rattle.std.specs.List.{slice_split, onto_first, filter_map, slice_get}
use Rattle.std.specs.List.Sorted.{IsNonDecreasingBy}
use Rattle.std.proofs.lemmas.List.{append-nil}
use Rattle.std.proofs.lemmas.List.Elements.{filter_map-append}
use Rattle.std.proofs.lemmas.List.Sorted.{IsNonDecreasingBy-push, IsNonDecreasingBy-short}
use Rattle.std.proofs.lemmas.Option.{slice_get-get_or}
use Rattle.std.proofs.lemmas.Bool.{ltb-false}
use Rattle.schedule.specs.declared.draft.Draft.{Draft}
use Rattle.schedule.specs.declared.draft.LineError.{LineError}
use Rattle.schedule.specs.declared.draft.LineError.TheVariants as faults
use Rattle.schedule.specs.declared.events.Due.{Due}
use Rattle.schedule.specs.declared.refusal.ScheduleRule.{ScheduleRule}
use Rattle.schedule.specs.declared.refusal.ScheduleRule.TheVariants as rules
use Rattle.schedule.specs.declared.refusal.ScheduleError.{ScheduleError}
use Rattle.schedule.specs.declared.refusal.ScheduleError.TheVariants as errors
use Rattle.schedule.specs.declared.refusal.ScheduleRefusal.{ScheduleRefusal}
use Rattle.schedule.specs.declared.Schedule.{Schedule}
use Rattle.schedule.specs.declared.statement.Statement.{Statement}
use Rattle.schedule.specs.declared.statement.Statement.TheVariants as says
use Rattle.schedule.specs.inside.Draft.{empty, unless, with_statement, with_said, with_line, with_lines, schedule_from, error_at, Leaves, GivesDraft}
use Rattle.schedule.specs.Grammar.{quantum_in, epoch_in, tty_in, random_in, event_in, first_in, events_in, setting_fault, event_fault, unless_broken, said_below, go_on, said_in_turn, schedule_said, meaning_of, Gives}
use Rattle.schedule.specs.Statement.{line_said}
use Rattle.schedule.specs.Text.{lines_of}

-- a piece with one byte more in front, or that byte alone
onto : (b : ℕ) (pieces : List (List ℕ)) → (first : List ℕ) × (more : List (List ℕ)) × (onto_first b pieces ≡ first ∷ more)
onto b [] = (b ∷ [], [], refl)
onto b (part ∷ parts) = (b ∷ part, parts, refl)

-- an event that breaks no rule comes no earlier than the one before
not_later : (time : ℕ) (before : Due) → event_fault time (Some before) ≡ None → before.time ≤ time
not_later time before free =
    elim (ltb time before.time) as (λ b. (ltb time before.time ≡ b) → cond b (Some rules.Order) None ≡ None → before.time ≤ time) [
      | true ↦ λ e f. cc
      | false ↦ λ e f. ltb-false _ _ e
    ] refl free

-- the pieces of any bytes are one or more
pieces_some : (p : ℕ → Bool) (bytes : List ℕ) → (first : List ℕ) × (more : List (List ℕ)) × (slice_split p bytes ≡ first ∷ more)
pieces_some p [] = ([], [], refl)
pieces_some p (b ∷ bytes) =
    elim (p b) as (λ t. (first : List ℕ) × (more : List (List ℕ)) × (cond t ([] ∷ slice_split p bytes) (onto_first b (slice_split p bytes)) ≡ first ∷ more)) [
      | true ↦ ([], slice_split p bytes, refl)
      | false ↦ onto b (slice_split p bytes)
    ]

-- a line with others behind it
pub with_lines-more : (text after : List ℕ) (d : Draft) (line : ℕ) → with_lines (text ∷ lines_of after) d line ≡ go_on line (with_line d text) (λ longer. with_lines (lines_of after) longer (line + 1))
with_lines-more text after d line =
    let some = pieces_some _ after in
    let F : List (List ℕ) → Type 0 = λ pieces. with_lines (text ∷ pieces) d line ≡ go_on line (with_line d text) (λ longer. with_lines pieces longer (line + 1)) in
    subst F (sym some.2) refl

-- a line that is taken
pub with_lines-taken : (rest text after : List ℕ) (d longer : Draft) (line : ℕ) (meant : Result Draft ScheduleRefusal) → lines_of rest ≡ text ∷ lines_of after → with_line d text ≡ Ok longer → with_lines (lines_of rest) d line ≡ meant → with_lines (lines_of after) longer (line + 1) ≡ meant
with_lines-taken rest text after d longer line meant cut taken means =
    sym (ap (λ r. go_on line r (λ l. with_lines (lines_of after) l (line + 1))) taken)
    ∙ (sym (with_lines-more text after d line) ∙ (ap (λ ps. with_lines ps d line) (sym cut) ∙ means))

-- a line that is not taken
pub with_lines-broken : (rest text after : List ℕ) (d new : Draft) (line : ℕ) (meant : Result Draft ScheduleRefusal) (fault : LineError) → lines_of rest ≡ text ∷ lines_of after → Leaves {A = Unit {0}} (Err fault) new (with_line d text) → with_lines (lines_of rest) d line ≡ meant → GivesDraft (Err (error_at fault line)) meant
with_lines-broken rest text after d new line meant (faults.Broken broken) cut taken means =
    sym means
    ∙ (ap (λ ps. with_lines ps d line) cut
    ∙ (with_lines-more text after d line ∙ ap (λ r. go_on line r (λ l. with_lines (lines_of after) l (line + 1))) taken))
with_lines-broken rest text after d new line meant faults.NoMemory cut taken means = tt

-- no statement of a kind more
skip : {A : Type 0} (kind : Statement → Option A) (above : List Statement) (s : Statement) → kind s ≡ None → filter_map kind (above ++ s ∷ []) ≡ filter_map kind above
skip kind above s none = filter_map-append kind above (s ∷ []) ∙ rw none (append-nil (filter_map kind above))

-- a statement of a kind more
one_more : {A : Type 0} (kind : Statement → Option A) (above : List Statement) (s : Statement) (x : A) → kind s ≡ Some x → filter_map kind (above ++ s ∷ []) ≡ filter_map kind above ++ x ∷ []
one_more kind above s x some = filter_map-append kind above (s ∷ []) ∙ rw some refl

-- the first of a list with an item more
first_one : {A : Type 0} (xs : List A) (x : A) → slice_get xs 0 ≡ None → slice_get (xs ++ x ∷ []) 0 ≡ Some x
first_one [] x none = refl
first_one (y ∷ xs) x none = cc

-- the draft that stands for what some lines say
abbrev pub draft_of : List Statement → Draft
draft_of ss = record {
  quantum = first_in quantum_in ss;
  epoch = first_in epoch_in ss;
  tty = first_in tty_in ss;
  random = first_in random_in ss;
  events = events_in ss;
}

-- a setting is taken only where none of its kind stands above
setting_free : {A : Type 0} (above : Option A) (events : List Due) → setting_fault above events ≡ None → above ≡ None
setting_free None events free = refl
setting_free (Some x) events free = cc

abbrev drafts : Result (List Statement) ScheduleRefusal → Result Draft ScheduleRefusal
drafts (Ok ss) = Ok (draft_of ss)
drafts (Err refusal) = Err refusal

-- a statement is taken by the draft as it is by the list
abbrev longer : List Statement → Result Statement ScheduleRule → Result Draft ScheduleRule
longer above (Ok s) = Ok (draft_of (above ++ s ∷ []))
longer above (Err broken) = Err broken

taken_unless : (above : List Statement) (s : Statement) (f : Option ScheduleRule) (d : Draft) → (f ≡ None → d ≡ draft_of (above ++ s ∷ [])) → unless f d ≡ longer above (unless_broken s f)
taken_unless above s None d same = ap (λ x. Ok x) (same refl)
taken_unless above s (Some broken) d same = refl

with_statement-same : (above : List Statement) (s : Statement) → with_statement (draft_of above) s ≡ longer above (said_below above (Ok s))
with_statement-same above (says.Quantum n) =
    taken_unless above (says.Quantum n) (setting_fault (first_in quantum_in above) (events_in above)) (record (draft_of above) { quantum = Some n }) (λ free.
    let none = setting_free _ _ free in
    let s = says.Quantum n in
    let q : first_in quantum_in (above ++ s ∷ []) ≡ Some n = rw (one_more quantum_in above s n refl) (first_one _ n none) in
    let e = skip epoch_in above s refl in
    let t = skip tty_in above s refl in
    let r = skip random_in above s refl in
    let d = skip event_in above s refl in
    cc)
with_statement-same above (says.Epoch a b) =
    taken_unless above (says.Epoch a b) (setting_fault (first_in epoch_in above) (events_in above)) (record (draft_of above) { epoch = Some (a, b) }) (λ free.
    let none = setting_free _ _ free in
    let s = says.Epoch a b in
    let own : first_in epoch_in (above ++ s ∷ []) ≡ Some (a, b) = rw (one_more epoch_in above s (a, b) refl) (first_one _ (a, b) none) in
    let q = skip quantum_in above s refl in
    let t = skip tty_in above s refl in
    let r = skip random_in above s refl in
    let d = skip event_in above s refl in
    cc)
with_statement-same above (says.Tty size) =
    taken_unless above (says.Tty size) (setting_fault (first_in tty_in above) (events_in above)) (record (draft_of above) { tty = Some size }) (λ free.
    let none = setting_free _ _ free in
    let s = says.Tty size in
    let own : first_in tty_in (above ++ s ∷ []) ≡ Some size = rw (one_more tty_in above s size refl) (first_one _ size none) in
    let q = skip quantum_in above s refl in
    let e = skip epoch_in above s refl in
    let r = skip random_in above s refl in
    let d = skip event_in above s refl in
    cc)
with_statement-same above (says.Random bytes) =
    taken_unless above (says.Random bytes) (setting_fault (first_in random_in above) (events_in above)) (record (draft_of above) { random = Some bytes }) (λ free.
    let none = setting_free _ _ free in
    let s = says.Random bytes in
    let own : first_in random_in (above ++ s ∷ []) ≡ Some bytes = rw (one_more random_in above s bytes refl) (first_one _ bytes none) in
    let q = skip quantum_in above s refl in
    let e = skip epoch_in above s refl in
    let t = skip tty_in above s refl in
    let d = skip event_in above s refl in
    cc)
with_statement-same above (says.At due) =
    taken_unless above (says.At due) (event_fault due.time (slice_get (events_in above) (length (events_in above) - 1))) (record (draft_of above) { events = events_in above ++ due ∷ [] }) (λ free.
    let s = says.At due in
    let own = one_more event_in above s due refl in
    let q = skip quantum_in above s refl in
    let e = skip epoch_in above s refl in
    let t = skip tty_in above s refl in
    let r = skip random_in above s refl in
    cc)

with_said-same : (above : List Statement) (r : Result Statement ScheduleRule) → with_said (draft_of above) r ≡ longer above (said_below above r)
with_said-same above (Ok s) = with_statement-same above s
with_said-same above (Err broken) = refl

-- a line is taken by the draft as it is by the list, if those behind it are
go_on-same : (ps : List (List ℕ)) (above : List Statement) (line : ℕ) (r : Result Statement ScheduleRule) → ((s : Statement) → with_lines ps (draft_of (above ++ s ∷ [])) (line + 1) ≡ drafts (said_in_turn ps (above ++ s ∷ []) (line + 1))) → go_on line (longer above r) (λ d. with_lines ps d (line + 1)) ≡ drafts (go_on line r (λ s. said_in_turn ps (above ++ s ∷ []) (line + 1)))
go_on-same ps above line (Ok s) same = same s
go_on-same ps above line (Err broken) same = refl

-- the draft of all lines stands for the list of what they say
with_lines-same : (ps : List (List ℕ)) (above : List Statement) (line : ℕ) → with_lines ps (draft_of above) line ≡ drafts (said_in_turn ps above line)
with_lines-same [] above line = refl
with_lines-same ([] ∷ []) above line = refl
with_lines-same ((byte ∷ bytes) ∷ []) above line = refl
with_lines-same (text ∷ next ∷ more) above line =
    ap (λ r. go_on line r (λ d. with_lines (next ∷ more) d (line + 1))) (with_said-same above (line_said text))
    ∙ go_on-same (next ∷ more) above line (said_below above (line_said text)) (λ s. with_lines-same (next ∷ more) (above ++ s ∷ []) (line + 1))

abbrev scheduled : Result Draft ScheduleRefusal → Result Schedule ScheduleRefusal
scheduled (Ok d) = Ok (schedule_from d)
scheduled (Err refusal) = Err refusal

schedule_said-drafts : (r : Result (List Statement) ScheduleRefusal) → schedule_said r ≡ scheduled (drafts r)
schedule_said-drafts (Ok ss) = refl
schedule_said-drafts (Err refusal) = refl

-- what a text says is the schedule of its draft
meaning_of-drafts : (text : List ℕ) → meaning_of text ≡ scheduled (with_lines (lines_of text) empty 1)
unfolding meaning_of
meaning_of-drafts text =
    schedule_said-drafts (said_in_turn (lines_of text) [] 1) ∙ ap scheduled (sym (with_lines-same (lines_of text) [] 1))

-- an error that is told of the lines is told of the text
pub Gives-error : (text : List ℕ) (e : ScheduleError) → GivesDraft (Err e) (with_lines (lines_of text) empty 1) → Gives (Err e) (meaning_of text)
Gives-error text (errors.Refused refusal) told = meaning_of-drafts text ∙ ap scheduled told
Gives-error text errors.NoMemory told = tt

-- the schedule of a whole draft is that of the text
pub Gives-whole : (text : List ℕ) (d : Draft) (r : Result Schedule ScheduleError) → with_lines (lines_of text) empty 1 ≡ Ok d → IfOk r (λ s. s ≡ schedule_from d) → IfErr r (λ e. e ≡ errors.NoMemory) → Gives r (meaning_of text)
Gives-whole text d (Ok s) told ok err = meaning_of-drafts text ∙ (ap scheduled told ∙ ap (λ x. Ok x) (sym ok))
Gives-whole text d (Err (errors.Refused refusal)) told ok err = cc
Gives-whole text d (Err errors.NoMemory) told ok err = tt

abbrev AreInOrder : List Due → Type 0
AreInOrder events = IsNonDecreasingBy (λ due. due.time) events

-- an event that breaks no rule keeps the order
in_order-push : (events : List Due) (due : Due) → AreInOrder events → event_fault due.time (slice_get events (length events - 1)) ≡ None → AreInOrder (events ++ due ∷ [])
in_order-push events due ordered free =
    IsNonDecreasingBy-push (λ e. e.time) events due ordered (λ d some.
    let last = slice_get-get_or events (length events - 1) d (omega arith) in
    let F : Option Due → Type 0 = λ o. event_fault due.time o ≡ None in
    not_later due.time (get_or events (length events - 1) d) (subst F last free))

pub unless_ok : (f : Option ScheduleRule) (d new : Draft) → unless f d ≡ Ok new → (f ≡ None) × (d ≡ new)
unless_ok None d new taken = (refl, cc)
unless_ok (Some broken) d new taken = cc

-- the events stay as they are
in_order-same : (f : Option ScheduleRule) (d old new : Draft) → AreInOrder old.events → d.events ≡ old.events → unless f d ≡ Ok new → AreInOrder new.events
in_order-same f d old new ordered same taken =
    let events : old.events ≡ new.events = sym same ∙ ap (λ (x : Draft). x.events) (unless_ok f d new taken).1 in
    let F : List Due → Type 0 = AreInOrder in
    subst F events ordered

in_order-statement : (d new : Draft) (s : Statement) → AreInOrder d.events → with_statement d s ≡ Ok new → AreInOrder new.events
in_order-statement d new (says.Quantum n) ordered taken = in_order-same _ (record d { quantum = Some n }) d new ordered refl taken
in_order-statement d new (says.Epoch a b) ordered taken = in_order-same _ (record d { epoch = Some (a, b) }) d new ordered refl taken
in_order-statement d new (says.Tty size) ordered taken = in_order-same _ (record d { tty = Some size }) d new ordered refl taken
in_order-statement d new (says.Random bytes) ordered taken = in_order-same _ (record d { random = Some bytes }) d new ordered refl taken
in_order-statement d new (says.At due) ordered taken =
    let ok = unless_ok _ (record d { events = d.events ++ due ∷ [] }) new taken in
    let F : List Due → Type 0 = AreInOrder in
    subst F (ap (λ (x : Draft). x.events) ok.1) (in_order-push d.events due ordered ok.0)

in_order-said : (d new : Draft) (r : Result Statement ScheduleRule) → AreInOrder d.events → with_said d r ≡ Ok new → AreInOrder new.events
in_order-said d new (Ok s) ordered taken = in_order-statement d new s ordered taken
in_order-said d new (Err broken) ordered taken = cc

in_order-on : (ps : List (List ℕ)) (line : ℕ) (end : Draft) (r : Result Draft ScheduleRule) → ((longer : Draft) → r ≡ Ok longer → AreInOrder longer.events) → ((longer : Draft) → AreInOrder longer.events → with_lines ps longer (line + 1) ≡ Ok end → AreInOrder end.events) → go_on line r (λ d. with_lines ps d (line + 1)) ≡ Ok end → AreInOrder end.events
in_order-on ps line end (Ok longer) ordered on told = on longer (ordered longer refl) told
in_order-on ps line end (Err broken) ordered on told = cc

-- the events of all lines stand in order of time
pub in_order-lines : (ps : List (List ℕ)) (d end : Draft) (line : ℕ) → AreInOrder d.events → with_lines ps d line ≡ Ok end → AreInOrder end.events
in_order-lines [] d end line ordered told =
    let F : List Due → Type 0 = AreInOrder in
    let same : d ≡ end = cc in
    subst F (ap (λ (x : Draft). x.events) same) ordered
in_order-lines ([] ∷ []) d end line ordered told =
    let F : List Due → Type 0 = AreInOrder in
    let same : d ≡ end = cc in
    subst F (ap (λ (x : Draft). x.events) same) ordered
in_order-lines ((byte ∷ bytes) ∷ []) d end line ordered told = cc
in_order-lines (text ∷ next ∷ more) d end line ordered told =
    in_order-on (next ∷ more) line end (with_line d text) (λ longer taken. in_order-said d longer (line_said text) ordered taken) (λ longer o t. in_order-lines (next ∷ more) longer end (line + 1) o t) told

-- so do those of the schedule
pub in_order-whole : (text : List ℕ) (d : Draft) (r : Result Schedule ScheduleError) → with_lines (lines_of text) empty 1 ≡ Ok d → IfOk r (λ s. s ≡ schedule_from d) → IfOk r (λ s. IsNonDecreasingBy (λ (due : Due). due.time) s.events)
in_order-whole text d (Ok s) told ok =
    let F : Schedule → Type 0 = λ x. AreInOrder x.events in
    subst F (sym ok) (in_order-lines (lines_of text) empty d 1 (IsNonDecreasingBy-short _ [] (omega arith)) told)
in_order-whole text d (Err e) told ok = tt
