-- What is told leads from one moment to another.
use Rattle.std.proofs.Common.{arith, ◌≡◌, ◌∙◌, ◌≤◌, ℕ, Bool, true, false, List, [], ◌∷◌, Option, Some, None, refl, sym, ap, subst, inl, inr, Result, Ok, Err, OnOk}
use Rattle.std.proofs.lemmas.Bool.Decides.{nat_tests}
use Rattle.std.specs.Prelude.{ℤ, ◌&&◌, ◌==◌, nat_le, if◌then◌else◌}
use Rattle.bridge_log.proofs.Histories.{logged_none, logged_one, logged_then}
use Rattle.bridge_log.specs.Keeping.{Logged}
use Rattle.kernel_core.specs.declared.log_entry.LogEntry.{LogEntry}
use Rattle.kernel_core.specs.declared.signal.Sig.{Sig}
use Rattle.kernel_core.specs.declared.log_entry.LogEntry.TheVariants.{Clock, Post}
use Rattle.kernel_model.specs.Clock.{comes, gone_off, gone_off_at, if_comes, is_due, next_due, next_time}
use Rattle.kernel_model.specs.Pipes.{Sent}
use Rattle.kernel_model.specs.SignalRows.{advance, after_expiry}
use Rattle.kernel_model.specs.State.{Kernel, Timer}
use Rattle.native_calls.specs.History.{FollowsClock, FollowsPost, Leads, Moment, moment}
use Rattle.native_log.specs.NativeLog.{IsReady, NativeLog, as_told, at_time, emptied}
use Rattle.native_log.specs.inside.Entries.{with_calls, with_entry, with_time}
use Rattle.native_log.specs.inside.Times.{has_come}
use Rattle.o32_model.specs.Logs.{with_more}

pub on_ok : {A E : Type 0} (result : Result A E) (P Q : Type 0) → (P → Q) → OnOk result P → OnOk result Q
on_ok (Ok value) P Q so p = so p
on_ok (Err error) P Q so p = p

-- Whether the timer is due

come_by : (clock time : ℕ) (there : Bool) → has_come clock (if there then Some time else None) ≡ (nat_le time clock && there)
come_by clock time true = by (nat_le time clock) where
  by : (b : Bool) → b ≡ (b && true)
  by true = refl
  by false = refl
come_by clock time false = by (nat_le time clock) where
  by : (b : Bool) → false ≡ (b && false)
  by true = refl
  by false = refl

not_due : (clock period : ℕ) (due : Option ℕ) → has_come clock (if_comes due) ≡ false → gone_off_at clock period due ≡ None
not_due clock period None early = refl
not_due clock period (Some time) early =
    ap (λ (b : Bool). if b then Some (next_due clock time period) else None) (sym (come_by clock time (comes time)) ∙ early)

pub waits : (clock : ℕ) (timer : Timer) (next : Option ℕ) → next ≡ next_time timer → has_come clock next ≡ false → gone_off clock timer ≡ None
waits clock timer next is early = not_due clock timer.period timer.due (ap (has_come clock) (sym is) ∙ early)

-- The kernel's time

module _ (kernel : Kernel) where
  -- the clock has moved to where it stands
  pub stands : (clock : ℕ) → kernel.clock ≡ clock → at_time clock kernel ≡ kernel
  stands clock is = ap (λ (time : ℕ). at_time time kernel) (sym is)

  expiry_clock : (clock : ℕ) (kept : Bool) (gone : Option Timer) → at_time clock (after_expiry (at_time clock kernel) kept gone) ≡ after_expiry (at_time clock kernel) kept gone
  expiry_clock clock kept None = refl
  expiry_clock clock kept (Some timer) = refl

  -- no timer is due
  moved : (from clock : ℕ) → gone_off clock kernel.timer ≡ None → at_time clock kernel ≡ advance (at_time from kernel) clock false
  unfolding advance
  moved from clock none = ap (after_expiry (at_time clock kernel) false) (sym none)

  -- from whatever time
  advanced : (from clock : ℕ) (kept : Bool) → at_time clock (advance kernel clock kept) ≡ advance (at_time from kernel) clock kept
  unfolding advance
  advanced from clock kept = expiry_clock clock kept (gone_off clock kernel.timer)

  -- it has not gone off
  not_advanced : (from clock : ℕ) (kept : Bool) → gone_off clock kernel.timer ≡ None → at_time from (advance kernel clock kept) ≡ at_time from kernel
  unfolding advance
  not_advanced from clock kept none = ap (λ (gone : Option Timer). at_time from (after_expiry (at_time clock kernel) kept gone)) none

-- Entries

abbrev LogsTo : NativeLog → NativeLog → Kernel → Kernel → List ℕ → List ℕ → Sent → Sent → Type 0
LogsTo old new kernel became left rest before after = Logged old.entries new.entries (as_told old kernel left before) (as_told new became rest after)

pub stays : (old new : NativeLog) (kernel : Kernel) (left : List ℕ) (sent : Sent) → new ≡ old → LogsTo old new kernel kernel left left sent sent
stays old new kernel left sent is =
    subst (λ (log : NativeLog). LogsTo old log kernel kernel left left sent sent) (sym is) (logged_none old.entries (as_told old kernel left sent))

clock_told : (old : NativeLog) (clock : ℕ) (kernel : Kernel) (left : List ℕ) (sent : Sent) → old.told ≤ clock → gone_off clock kernel.timer ≡ None
    → LogsTo old (with_time clock old) kernel kernel left left sent sent
clock_told old clock kernel left sent behind none =
    logged_one old.entries (with_time clock old).entries (Clock clock) (as_told old kernel left sent) (as_told (with_time clock old) kernel left sent) refl
    (record { kept = false; later = behind; became = moved kernel old.told clock none; rest = refl; silent = refl })

pub time_told : (old new : NativeLog) (clock : ℕ) (kernel : Kernel) (left : List ℕ) (sent : Sent) → new ≡ with_time clock old → old.told ≤ clock → gone_off clock kernel.timer ≡ None
    → LogsTo old new kernel kernel left left sent sent
time_told old new clock kernel left sent is behind none =
    subst (λ (log : NativeLog). LogsTo old log kernel kernel left left sent sent) (sym is) (clock_told old clock kernel left sent behind none)

-- the timer has gone off
expired : (old : NativeLog) (clock : ℕ) (kernel : Kernel) (kept : Bool) (left : List ℕ) (sent : Sent) → old.told ≤ clock
    → LogsTo old (with_time clock old) kernel (advance kernel clock kept) left left sent sent
expired old clock kernel kept left sent behind =
    logged_one old.entries (with_time clock old).entries (Clock clock) (as_told old kernel left sent) (as_told (with_time clock old) (advance kernel clock kept) left sent) refl
    (record { kept = kept; later = behind; became = advanced kernel old.told clock kept; rest = refl; silent = refl })

pub timer_told : (old new : NativeLog) (clock : ℕ) (kernel became : Kernel) (kept : Bool) (left : List ℕ) (sent : Sent) → new ≡ with_time clock old → old.told ≤ clock
    → became ≡ advance kernel clock kept → LogsTo old new kernel became left left sent sent
timer_told old new clock kernel became kept left sent is behind row =
    subst (λ (log : NativeLog). LogsTo old log kernel became left left sent sent) (sym is)
    (subst (λ (k : Kernel). LogsTo old (with_time clock old) kernel k left left sent sent) (sym row) (expired old clock kernel kept left sent behind))

pub timer_waits : (old new : NativeLog) (clock : ℕ) (kernel became : Kernel) (kept : Bool) (left : List ℕ) (sent : Sent) → new ≡ old → gone_off clock kernel.timer ≡ None
    → became ≡ advance kernel clock kept → LogsTo old new kernel became left left sent sent
timer_waits old new clock kernel became kept left sent is none row =
    let same : at_time old.told became ≡ at_time old.told kernel = ap (at_time old.told) row ∙ not_advanced kernel old.told clock kept none in
    subst (λ (log : NativeLog). LogsTo old log kernel became left left sent sent) (sym is)
    (subst (λ (k : Kernel). Logged old.entries old.entries (as_told old kernel left sent) (moment k left sent)) (sym same) (logged_none old.entries (as_told old kernel left sent)))

-- The calls of a part

true_false : true ≡ false → ⊥
true_false is = cc

-- those that were kept are the ones that lead so
those : (entries : Option (List LogEntry)) (calls more : List LogEntry) → Some calls ≡ with_more (emptied entries) more → more ≡ calls
those None calls more is = absurd cc
those (Some list) calls more is = cc

unkept : (entries : Option (List LogEntry)) (more : List LogEntry) → None ≡ with_more (emptied entries) more → entries ≡ None
unkept None more is = refl
unkept (Some list) more is = absurd cc

module _ (clock : ℕ) (kernel became : Kernel) (left rest : List ℕ) (before after : Sent) (from : kernel.clock ≡ clock) (to : became.clock ≡ clock) where
  abbrev LeadsBy : List LogEntry → Type 0
  LeadsBy calls = Leads (moment kernel left before) calls (moment became rest after)

  -- the calls lead from the time at which they were made
  in_its_time : (calls : List LogEntry) → LeadsBy calls → Leads (moment (at_time clock kernel) left before) calls (moment (at_time clock became) rest after)
  in_its_time calls leads =
      subst (λ (k : Kernel). Leads (moment k left before) calls (moment (at_time clock became) rest after)) (sym (stands kernel clock from))
      (subst (λ (k : Kernel). Leads (moment kernel left before) calls (moment k rest after)) (sym (stands became clock to)) leads)

  -- no call was made
  none_made : (old : NativeLog) → LeadsBy [] → LogsTo old old kernel became left rest before after
  none_made old same =
      subst (λ (m : Moment). Logged old.entries old.entries (as_told old kernel left before) (moment (at_time old.told m.kernel) m.left m.sent)) same
      (logged_none old.entries (as_told old kernel left before))

  -- the time was told
  made_then : (old : NativeLog) (call : LogEntry) (calls : List LogEntry) → old.told ≡ clock → LeadsBy (call ∷ calls)
      → LogsTo old (record old { entries = with_more old.entries (call ∷ calls) }) kernel became left rest before after
  made_then old call calls is leads =
      subst (λ (time : ℕ). Logged old.entries (with_more old.entries (call ∷ calls)) (moment (at_time time kernel) left before) (moment (at_time time became) rest after)) (sym is)
      (record { more = call ∷ calls; kept = refl; leads = in_its_time (call ∷ calls) leads })

  -- or the time is told first
  made : (old : NativeLog) (told : Bool) (call : LogEntry) (calls : List LogEntry) → (old.told == clock) ≡ told → old.told ≤ clock → IsReady clock old kernel → LeadsBy (call ∷ calls)
      → LogsTo old
      (record (if told then old else with_time clock old) { entries = with_more (if told then old else with_time clock old).entries (call ∷ calls) })
      kernel became left rest before after
  made old true call calls is behind ready leads = made_then old call calls (grind (arith, nat_tests)) leads
  made old false call calls is behind (inl same) leads =
      let other : (clock == clock) ≡ false = ap (λ (time : ℕ). time == clock) (sym same) ∙ is in
      let itself : (clock == clock) ≡ true = grind (arith, nat_tests) in
      absurd (true_false (sym itself ∙ other))
  made old false call calls is behind (inr none) leads =
      logged_then (clock_told old clock kernel left before behind none) (made_then (with_time clock old) call calls refl leads)

  with_calls_made : (old : NativeLog) (calls : List LogEntry) → old.told ≤ clock → IsReady clock old kernel → LeadsBy calls → LogsTo old (with_calls clock calls old) kernel became left rest before after
  with_calls_made old [] behind ready leads = none_made old leads
  with_calls_made old (call ∷ calls) behind ready leads = made old (old.told == clock) call calls refl behind ready leads

  abbrev Keeps : NativeLog → Option (List LogEntry) → Type 0
  Keeps old calls = Logged (emptied old.entries) calls (moment kernel left before) (moment became rest after)

  pub calls_added : (old new : NativeLog) (calls : List LogEntry) → new ≡ with_calls clock calls old → old.told ≤ clock → IsReady clock old kernel
      → Keeps old (Some calls) → LogsTo old new kernel became left rest before after
  calls_added old new calls is behind ready logged =
      subst (λ (log : NativeLog). LogsTo old log kernel became left rest before after) (sym is)
      (with_calls_made old calls behind ready (subst LeadsBy (those old.entries calls logged.more logged.kept) logged.leads))

  -- where none is kept

  -- the time may have to be told
  time_first : (old : NativeLog) → old.told ≤ clock → IsReady clock old kernel → Logged None None (as_told old kernel left before) (moment (at_time clock kernel) left before)
  time_first old behind (inl same) = subst (λ (time : ℕ). Logged None None (as_told old kernel left before) (moment (at_time time kernel) left before)) same (logged_none None (as_told old kernel left before))
  time_first old behind (inr none) =
      logged_one None None (Clock clock) (as_told old kernel left before) (moment (at_time clock kernel) left before) refl
      (record { kept = false; later = behind; became = moved kernel old.told clock none; rest = refl; silent = refl })

  pub nothing_added : (old new : NativeLog) → new ≡ record old { told = clock } → old.told ≤ clock → IsReady clock old kernel → Keeps old None → LogsTo old new kernel became left rest before after
  nothing_added old new is behind ready logged =
      let empty : old.entries ≡ None = unkept old.entries logged.more logged.kept in
      subst (λ (log : NativeLog). LogsTo old log kernel became left rest before after) (sym is)
      (subst (λ (e : Option (List LogEntry)). Logged e e (as_told old kernel left before) (moment (at_time clock became) rest after)) (sym empty)
      (logged_then (time_first old behind ready) (record { more = logged.more; kept = refl; leads = in_its_time logged.more logged.leads })))

module _ (clock : ℕ) (kernel became : Kernel) (left rest : List ℕ) (before after : Sent) where
  still_ready : (old : NativeLog) (calls : List LogEntry) → IsReady clock old kernel → Leads (moment kernel left before) calls (moment became rest after) → IsReady clock (with_calls clock calls old) became
  still_ready old [] ready same = subst (λ (m : Moment). IsReady clock old m.kernel) same ready
  still_ready old (call ∷ calls) ready leads = by (old.told == clock) refl where
    by : (told : Bool) → (old.told == clock) ≡ told
        → IsReady clock (record (if told then old else with_time clock old) { entries = with_more (if told then old else with_time clock old).entries (call ∷ calls) }) became
    by true is =
        let same : old.told ≡ clock = grind (arith, nat_tests) in
        inl same
    by false is = inl refl

  pub ready_then : (old new : NativeLog) (calls : List LogEntry) → new ≡ with_calls clock calls old → IsReady clock old kernel
      → Logged (emptied old.entries) (Some calls) (moment kernel left before) (moment became rest after) → IsReady clock new became
  ready_then old new calls is ready logged =
      subst (λ (log : NativeLog). IsReady clock log became) (sym is)
      (still_ready old calls ready
      (subst (λ (list : List LogEntry). Leads (moment kernel left before) list (moment became rest after))
      (those old.entries calls logged.more logged.kept) logged.leads))

-- A post

pub post_told : (old new : NativeLog) (signal : Sig) (code : ℤ) (value : ℕ) (kernel became : Kernel) (left : List ℕ) (sent : Sent) → new ≡ with_entry (Post signal code value) old
    → FollowsPost (as_told old kernel left sent) signal code value (as_told old became left sent) → LogsTo old new kernel became left left sent sent
post_told old new signal code value kernel became left sent is follows =
    subst (λ (log : NativeLog). LogsTo old log kernel became left left sent sent) (sym is)
    (logged_one old.entries (with_entry (Post signal code value) old).entries (Post signal code value) (as_told old kernel left sent) (as_told old became left sent) refl follows)
