-- The history of a run's native kernel, and the text of its log, turn by turn.
use Rattle.std.proofs.Common.{◌≡◌, ℕ, zero, suc, ◌+◌, ◌-◌, ◌<◌, ◌≤◌, Bool, true, false, List, [], ◌∷◌, ◌++◌, Option, Some, Result, Ok, Err, inl, inr, arith, refl, sym, ap, ◌∙◌, subst, add-one, add-zero, append-nil}
use Rattle.std.specs.Prelude.{◌==◌, if◌then◌else◌, nat_lt, unwrap_or}
use Rattle.std.proofs.lemmas.Bool.{cases_eq, cases_lt}
use Rattle.std.proofs.lemmas.Bool.Decides.{nat_tests}
use Rattle.o32_machine.proofs.Passed.{Leads-append}
use Rattle.kernel_core.specs.declared.core_error.Stop.{Stop}
use Rattle.kernel_core.specs.declared.event.Event.{Event}
use Rattle.kernel_core.specs.declared.finish.Finish.{Finish}
use Rattle.kernel_core.specs.declared.finish.Finish.TheVariants.{Exited, Killed, Budget, Blocked}
use Rattle.kernel_core.specs.declared.log_entry.LogEntry.{LogEntry}
use Rattle.kernel_core.specs.declared.log_entry.LogEntry.TheVariants as entry
use Rattle.kernel_model.specs.Pipes.{Sent, nothing}
use Rattle.kernel_model.specs.State.{Kernel}
use Rattle.native_calls.specs.History.{Follows, Leads, Moment, moment, more_sent, opening}
use Rattle.native_calls.specs.Table.{native_call}
use Rattle.o32_machine.specs.Passed.{NativeLog, as_told, at_time, emptied, first_log}
use Rattle.o32_machine.specs.Answered.{turns_of}
use Rattle.o32_machine.specs.Native.{LogsTurns, TurnLogged}
use Rattle.o32_machine.specs.Quiet.{IsQuiet, IsStill, IsTurnAfter}
use Rattle.o32_machine.specs.declared.turn.Turn as code
use Rattle.o32_machine.specs.declared.turn.Turn.TheVariants.{Went, Ended}
use Rattle.o32_model.specs.Logs.{with_more}
use Rattle.o32_turns.specs.Machine.{Machine, Turn}
use Rattle.o32_turns.specs.Runs.{IsRunningAt, Reached, after_turn, attempt, reached, unless_blocked, unless_over}
use Rattle.o32_turns.specs.Turn.{turn_of}
use Rattle.outside.specs.Output.{IsPrefix}
use Rattle.outside.specs.Streams.{Contents}
use Rattle.outside.proofs.OutputLemmas.{IsPrefix-empty}
use Rattle.o32_runner.specs.NativeText.{HasCutLog, HasLog, IsHistory, LeadsOver, LeadsTo, entry_lines, last_entries, logged, up_to}
use Rattle.o32_runner.specs.Runs.{IsOver, IsSoFar}
use Rattle.o32_runner.specs.inside.Told.{number_of}
use Rattle.o32_runner.proofs.QuietTurns.{none_behind, sent_behind}
use Rattle.o32_runner.proofs.Telling.{answered, attempt_is}
use Rattle.o32_runner.proofs.Traces.{there}

-- Lists turn by turn

same_up_to : {A : Type 0} (one other : ℕ → List A) (k : ℕ) → ((j : ℕ) → j < k → one j ≡ other j) → up_to one k ≡ up_to other k
unfolding up_to
same_up_to one other zero same = refl
same_up_to one other (suc k) same =
    ap (λ list. list ++ one k) (same_up_to one other k (λ j below. same j (omega arith)))
    ∙ ap (λ list. up_to other k ++ list) (same k (omega arith))

none_more : {A : Type 0} (turns : ℕ → List A) (j k : ℕ) → ((d : ℕ) → d < k → turns (j + d) ≡ []) → up_to turns (j + k) ≡ up_to turns j
unfolding up_to
none_more turns j zero none = ap (λ (n : ℕ). up_to turns n) (add-zero j)
none_more turns j (suc k) none =
    let next : j + suc k ≡ suc (j + k) = omega arith in
    ap (λ (n : ℕ). up_to turns n) next
    ∙ ap (λ list. up_to turns (j + k) ++ list) (none k (omega arith))
    ∙ append-nil (up_to turns (j + k))
    ∙ none_more turns j k (λ d below. none d (omega arith))

one_more : {A : Type 0} (turns : ℕ → List A) (k : ℕ) → up_to turns (k + 1) ≡ up_to turns k ++ turns k
unfolding up_to
one_more turns k = let next : k + 1 ≡ suc k = omega arith in ap (λ (n : ℕ). up_to turns n) next

-- A turn more, behind quiet ones

module _ (entries : ℕ → List LogEntry) (j q : ℕ) (more : List LogEntry) where
  abbrev pub with_turn : ℕ → List LogEntry
  with_turn k = if nat_lt k j then entries k else (if k == j + q then more else [])

  those_before : (k : ℕ) → k < j → with_turn k ≡ entries k
  those_before k below =
      let is : nat_lt k j ≡ true = grind (arith, nat_tests) in
      ap (λ (b : Bool). if b then entries k else (if k == j + q then more else [])) is

  not_before : (d : ℕ) → nat_lt (j + d) j ≡ false
  not_before d = grind (arith, nat_tests)

  at_quiet : (d : ℕ) → d < q → with_turn (j + d) ≡ []
  at_quiet d below =
      let other : (j + d == j + q) ≡ false = grind (arith, nat_tests) in
      ap (λ (b : Bool). if b then entries (j + d) else (if j + d == j + q then more else [])) (not_before d)
      ∙ ap (λ (b : Bool). if b then more else []) other

  pub at_turn : with_turn (j + q) ≡ more
  at_turn =
      let same : (j + q == j + q) ≡ true = grind (arith, nat_tests) in
      ap (λ (b : Bool). if b then entries (j + q) else (if j + q == j + q then more else [])) (not_before q)
      ∙ ap (λ (b : Bool). if b then more else []) same

  pub up_to_before : (k : ℕ) → k ≤ j → up_to with_turn k ≡ up_to entries k
  up_to_before k within = same_up_to with_turn entries k (λ i below. those_before i (omega arith))

  pub up_to_quiet : (d : ℕ) → d ≤ q → up_to with_turn (j + d) ≡ up_to entries j
  up_to_quiet d within =
      none_more with_turn j d (λ i below. at_quiet i (omega arith))
      ∙ up_to_before j (omega arith)

  pub up_to_turn : up_to with_turn (j + q + 1) ≡ up_to entries j ++ more
  up_to_turn =
      one_more with_turn (j + q)
      ∙ ap (λ list. list ++ with_turn (j + q)) (up_to_quiet q (omega arith))
      ∙ ap (λ list. up_to entries j ++ list) at_turn

  lines_of : (ℕ → List LogEntry) → ℕ → List ℕ
  lines_of turns k = entry_lines (k + 1) (turns k)

  pub logged_quiet : (d : ℕ) → d ≤ q → logged with_turn (j + d) ≡ logged entries j
  logged_quiet d within =
      none_more (λ k. entry_lines (k + 1) (with_turn k)) j d (λ i below. ap (λ list. entry_lines (j + i + 1) list) (at_quiet i (omega arith)))
      ∙ same_up_to (λ k. entry_lines (k + 1) (with_turn k)) (λ k. entry_lines (k + 1) (entries k)) j (λ i below. ap (λ list. entry_lines (i + 1) list) (those_before i below))

  pub logged_turn : logged with_turn (j + q + 1) ≡ logged entries j ++ entry_lines (j + q + 1) more
  logged_turn =
      one_more (λ k. entry_lines (k + 1) (with_turn k)) (j + q)
      ∙ ap (λ list. list ++ entry_lines (j + q + 1) (with_turn (j + q))) (logged_quiet q (omega arith))
      ∙ ap (λ list. logged entries j ++ entry_lines (j + q + 1) list) at_turn

-- What was sent before

abbrev ahead : Sent → Moment → Moment
ahead sent at = moment at.kernel at.left (more_sent sent at.sent)

follows_ahead : (sent : Sent) (from : Moment) (told : LogEntry) (to : Moment) → Follows from told to → Follows (ahead sent from) told (ahead sent to)
follows_ahead sent from (entry.Clock time) to follows =
    record { kept = follows.kept; later = follows.later; became = follows.became; rest = follows.rest; silent = ap (more_sent sent) follows.silent }
follows_ahead sent from (entry.Post signal code value) to follows = record {
  kept = follows.kept;
  given = follows.given;
  coded = follows.coded;
  valued = follows.valued;
  became = follows.became;
  rest = follows.rest;
  silent = ap (more_sent sent) follows.silent;
}
follows_ahead sent from (entry.Call number args before after reply) to follows = record {
  replied = follows.replied;
  stored = follows.stored;
  became = follows.became;
  rest = follows.rest;
  told = ap (more_sent sent) follows.told ∙ sym (sent_behind sent from.sent (native_call number args from.kernel before from.left).sent);
}

leads_ahead : (sent : Sent) (from : Moment) (entries : List LogEntry) (to : Moment) → Leads from entries to → Leads (ahead sent from) entries (ahead sent to)
leads_ahead sent from [] to same = ap (ahead sent) same
leads_ahead sent from (told ∷ more) to leads =
    (ahead sent leads.0, follows_ahead sent from told leads.0 leads.1, leads_ahead sent leads.0 more to leads.2)

-- entries behind others
leads_on : (from : Moment) (first second : List LogEntry) (kernel : Kernel) (left : List ℕ) (sent : Sent) (to : Moment) → Leads from first (moment kernel left sent) → Leads (moment kernel left nothing) second to
    → Leads from (first ++ second) (ahead sent to)
leads_on from first second kernel left sent to done next =
    Leads-append from (moment kernel left sent) (ahead sent to) first second done
    (subst (λ (s : Sent). Leads (moment kernel left s) second (ahead sent to)) (none_behind sent) (leads_ahead sent (moment kernel left nothing) second to next))

-- What is told so far

pub record SoLogged (quantum : ℕ) (machine : Machine) (left : List ℕ) (turns : ℕ) (native : NativeLog) (kernel : Kernel) (text : List ℕ) : Type 0 where
  pub entries : ℕ → List LogEntry
  pub leads : (k : ℕ) → k ≤ turns → LeadsTo quantum machine left entries k
  pub here : Leads (opening (at_time 0 machine.kernel) left) (up_to entries turns) (as_told native kernel (reached quantum machine left turns).left (reached quantum machine left turns).sent)
  pub behind : native.told ≤ kernel.clock
  pub last : List LogEntry
  pub kept : native.entries ≡ Some last
  pub written : text ≡ logged entries turns

abbrev no_entries : ℕ → List LogEntry
no_entries k = []

begins_at : (quantum : ℕ) (machine : Machine) (left : List ℕ) → SoLogged quantum machine left 0 (first_log true) machine.kernel []
unfolding reached up_to
begins_at quantum machine left = record {
  entries = no_entries;
  leads = λ k within.
      let none : k ≡ 0 = omega arith in
      let at : LeadsTo quantum machine left no_entries 0 = record { told = 0; leads = refl; behind = omega arith } in
      subst (λ (n : ℕ). LeadsTo quantum machine left no_entries n) (sym none) at;
  here = refl;
  behind = omega arith;
  last = [];
  kept = refl;
  written = refl;
}

pub begins : (quantum : ℕ) (machine : Machine) (left : List ℕ) (turns : ℕ) (native : NativeLog) → turns ≡ 0 → native ≡ first_log true → SoLogged quantum machine left turns native machine.kernel []
begins quantum machine left turns native none first =
    subst (λ (n : ℕ). SoLogged quantum machine left n native machine.kernel []) (sym none)
    (subst (λ (l : NativeLog). SoLogged quantum machine left 0 l machine.kernel []) (sym first) (begins_at quantum machine left))

-- the entries of a log that is kept
kept_more : (old new : Option (List LogEntry)) (last more : List LogEntry) → old ≡ Some last → new ≡ with_more (emptied old) more → new ≡ Some more
kept_more old new last more was is = is ∙ ap (λ (o : Option (List LogEntry)). with_more (emptied o) more) was

-- nothing more was sent
none_more_sent : (sent : Sent) (there : Reached) → there.sent ≡ nothing → more_sent sent there.sent ≡ sent
none_more_sent sent there none = ap (more_sent sent) none ∙ none_behind sent

-- nothing of the kernel moved but its clock
moved : (told : ℕ) (sent : Sent) (kernel : Kernel) (rest : List ℕ) (there : Reached) → IsStill kernel rest there
    → moment (at_time told kernel) rest sent ≡ moment (at_time told there.machine.kernel) there.left (more_sent sent there.sent)
moved told sent kernel rest there still =
    ap (λ (k : Kernel). moment (at_time told k) rest sent) (sym still.same)
    ∙ ap (λ (l : List ℕ). moment (at_time told there.machine.kernel) l sent) (sym still.rest)
    ∙ ap (λ (s : Sent). moment (at_time told there.machine.kernel) there.left s) (sym (none_more_sent sent there still.unsent))

-- a turn more
next_reached : (quantum : ℕ) (machine : Machine) (left : List ℕ) (k : ℕ) → IsRunningAt quantum machine left k
    → reached quantum machine left (k + 1) ≡ after_turn (reached quantum machine left k).sent (attempt quantum machine left k)
unfolding reached
next_reached quantum machine left k runs =
    rw add-one
    (ap (λ (o : Option Finish). unless_over quantum (reached quantum machine left k) o) runs.alive
    ∙ ap (λ (b : Bool). unless_blocked (reached quantum machine left k) (attempt quantum machine left k) b) runs.awake)

module _ (quantum : ℕ) (machine : Machine) (left : List ℕ) (j q limit : ℕ) (before at after : Contents) (now became : Machine) (turns : ℕ) (events : List Event) (same : q ≡ quantum) (so : IsSoFar quantum machine left j before at now)
    (old : NativeLog) (text : List ℕ) (was : SoLogged quantum machine left j old now.kernel text) where
  abbrev here : Reached
  here = reached quantum machine left j

  abbrev start : Moment
  start = opening (at_time 0 machine.kernel) left

  module _ (quiet : ℕ) (more : List LogEntry) where
    abbrev pub entries : ℕ → List LogEntry
    entries = with_turn was.entries j quiet more

    leads_before : (n : ℕ) → n ≤ j → LeadsTo quantum machine left entries n
    leads_before n within =
        subst (λ (list : List LogEntry). IsHistory machine left list (reached quantum machine left n).machine.kernel (reached quantum machine left n).left (reached quantum machine left n).sent)
        (sym (up_to_before was.entries j quiet more n within)) (was.leads n within)

    -- also over the quiet turns
    module _ (still : (d : ℕ) → d ≤ quiet → IsStill now.kernel here.left (reached quantum now here.left d)) where
      leads_quiet : (d : ℕ) → d ≤ quiet → LeadsTo quantum machine left entries (j + d)
      leads_quiet d within =
          let stays = still d within in
          let at_d : IsHistory machine left (up_to entries (j + d)) (reached quantum now here.left d).machine.kernel (reached quantum now here.left d).left (more_sent here.sent (reached quantum now here.left d).sent) = record {
            told = old.told;
            leads =
                subst (λ (m : Moment). Leads start (up_to entries (j + d)) m) (moved old.told here.sent now.kernel here.left (reached quantum now here.left d) stays)
                (subst (λ (list : List LogEntry). Leads start list (as_told old now.kernel here.left here.sent)) (sym (up_to_quiet was.entries j quiet more d within)) was.here);
            behind = omega (arith, was.behind, stays.later);
          } in
          subst (λ (r : Reached). IsHistory machine left (up_to entries (j + d)) r.machine.kernel r.left r.sent) (sym (there quantum machine left j before at now so d)) at_d

      pub leads_up_to : (n : ℕ) → n ≤ j + quiet → LeadsTo quantum machine left entries n
      leads_up_to n within =
          elim (cases_lt n j) as (λ _. LeadsTo quantum machine left entries n) [
            | inl less ↦ leads_before n (omega arith)
            | inr rest ↦
                let is : j + (n - j) ≡ n = omega arith in
                let few : n - j ≤ quiet = omega arith in
                subst (λ (k : ℕ). LeadsTo quantum machine left entries k) is (leads_quiet (n - j) few)
          ]

  stills : (result : Result code.Turn Stop) (turned : IsTurnAfter q limit now j result became turns events at after) (d : ℕ) → d ≤ turned.quiet → IsStill now.kernel here.left (reached quantum now here.left d)
  stills result turned d within =
      (subst (λ (n : ℕ). IsQuiet n now turned.quiet turned.middle) same turned.first).still here.left d within

  -- A turn stopped early: nothing more was told.
  pub stopped_log : (budget : ℕ) (stop : Stop) → IsTurnAfter q limit now j (Err stop) became turns events at after → HasCutLog quantum machine left budget turns text
  stopped_log budget stop turned =
      let counts : j + turned.quiet ≡ turns = omega (arith, turned.counted) in
      let all = entries turned.quiet [] in
      subst (λ (n : ℕ). HasCutLog quantum machine left budget n text) counts
      (record {
        entries = all;
        leads = leads_up_to turned.quiet [] (stills (Err stop) turned);
        next = inl (at_turn was.entries j turned.quiet []);
        written = (
          [],
          IsPrefix-empty (entry_lines (j + turned.quiet + 1) (all (j + turned.quiet))),
          was.written ∙ sym (logged_quiet was.entries j turned.quiet [] turned.quiet (omega arith)) ∙ sym (append-nil (logged all (j + turned.quiet))),
        );
      })

  -- A turn was finished.
  module _ (turn : code.Turn) (turned : IsTurnAfter q limit now j (Ok turn) became turns events at after) (new : NativeLog) (logs : LogsTurns (Ok turn) q now j turns became.kernel old new at) where
    -- what the attempt at it is
    abbrev tried : Turn
    tried = attempt quantum machine left (j + turned.quiet)

    tried_is : attempt quantum now here.left turned.quiet ≡ tried
    tried_is = ap (λ (r : Reached). turn_of quantum r.machine r.left) (sym (there quantum machine left j before at now so turned.quiet))

    -- its entries
    pub logged_here : TurnLogged now.kernel became.kernel here.left tried old new
    logged_here =
        let log = logs here.left so.rest in
        let quiet : log.quiet ≡ turned.quiet = omega (arith, turned.counted, log.counted) in
        subst (λ (t : Turn). TurnLogged now.kernel became.kernel here.left t old new) tried_is
        (subst (λ (n : ℕ). TurnLogged now.kernel became.kernel here.left (attempt n now here.left turned.quiet) old new) same
        (subst (λ (n : ℕ). TurnLogged now.kernel became.kernel here.left (attempt q now here.left n) old new) quiet log.last))

    abbrev more : List LogEntry
    more = logged_here.leads.more

    abbrev all : ℕ → List LogEntry
    all = entries turned.quiet more

    abbrev k : ℕ
    k = j + turned.quiet

    pub told_is : new.entries ≡ Some more
    told_is = kept_more old.entries new.entries was.last more was.kept logged_here.leads.kept

    -- its lines
    pub lines_are : entry_lines (number_of turns turn) (unwrap_or new.entries []) ≡ entry_lines (k + 1) more
    lines_are =
        let number : number_of turns turn ≡ k + 1 = omega (arith, turned.counted) in
        ap (λ (o : Option (List LogEntry)). entry_lines (number_of turns turn) (unwrap_or o [])) told_is
        ∙ ap (λ (n : ℕ). entry_lines n more) number

    -- nothing was sent in the quiet turns before it
    sent_here : (reached quantum machine left k).sent ≡ here.sent
    sent_here =
        ap (λ (r : Reached). r.sent) (there quantum machine left j before at now so turned.quiet)
        ∙ none_more_sent here.sent (reached quantum now here.left turned.quiet) (stills (Ok turn) turned turned.quiet (omega arith)).unsent

    abbrev all_sent : Sent
    all_sent = more_sent (reached quantum machine left k).sent tried.sent

    leads_all : Leads start (up_to all (k + 1)) (as_told new became.kernel tried.left all_sent)
    leads_all =
        subst (λ (list : List LogEntry). Leads start list (as_told new became.kernel tried.left all_sent)) (sym (up_to_turn was.entries j turned.quiet more))
        (subst (λ (s : Sent). Leads start (up_to was.entries j ++ more) (as_told new became.kernel tried.left (more_sent s tried.sent))) (sym sent_here)
        (leads_on start (up_to was.entries j) more (at_time old.told now.kernel) here.left here.sent (as_told new became.kernel tried.left tried.sent) was.here logged_here.leads.leads))

    -- to the kernel that the attempt leaves
    leads_over : LeadsOver quantum machine left all k
    leads_over =
        let came = answered quantum machine left j q limit before at after now became turns events same so turn turned in
        let is : became.kernel ≡ tried.machine.kernel =
        ap (λ (m : Machine). m.kernel) came.became
        ∙ sym (ap (λ (t : Turn). t.machine.kernel) (attempt_is quantum machine left j q limit before at after now became turns events same so (Ok turn) turned)) in
        subst (λ (kernel : Kernel). IsHistory machine left (up_to all (k + 1)) kernel tried.left all_sent) is
        (record { told = new.told; leads = leads_all; behind = logged_here.behind })

    leads_to : (n : ℕ) → n ≤ k → LeadsTo quantum machine left all n
    leads_to = leads_up_to turned.quiet more (stills (Ok turn) turned)

    -- one that counts
    leads_on_to : turns ≡ k + 1 → IsRunningAt quantum machine left k → (n : ℕ) → n ≤ turns → LeadsTo quantum machine left all n
    leads_on_to counts runs n within =
        elim (cases_eq n turns) as (λ _. LeadsTo quantum machine left all n) [
          | inl last ↦
              subst (λ (i : ℕ). LeadsTo quantum machine left all i) (sym (last ∙ counts))
              (subst (λ (r : Reached). IsHistory machine left (up_to all (k + 1)) r.machine.kernel r.left r.sent) (sym (next_reached quantum machine left k runs)) leads_over)
          | inr other ↦ leads_to n (omega (arith, within, other, counts))
        ]

    text_then : turns ≡ k + 1 → text ++ entry_lines (number_of turns turn) (unwrap_or new.entries []) ≡ logged all turns
    text_then counts =
        ap (λ (t : List ℕ). t ++ entry_lines (number_of turns turn) (unwrap_or new.entries [])) was.written
        ∙ ap (λ (t : List ℕ). logged was.entries j ++ t) lines_are
        ∙ sym (logged_turn was.entries j turned.quiet more)
        ∙ ap (λ (n : ℕ). logged all n) (sym counts)

    -- The run goes on.
    pub went_log : turn ≡ Went → IsSoFar quantum machine left turns before after became → SoLogged quantum machine left turns new became.kernel (text ++ entry_lines (number_of turns turn) (unwrap_or new.entries []))
    went_log is ongoing =
        let counts : turns ≡ k + 1 = turned.counted ∙ ap (λ (t : code.Turn). k + turns_of t) is in
        let runs : IsRunningAt quantum machine left k = ongoing.first k (omega (arith, counts)) in
        record {
          entries = all;
          leads = leads_on_to counts runs;
          here =
              subst (λ (n : ℕ). Leads start (up_to all n) (as_told new became.kernel (reached quantum machine left n).left (reached quantum machine left n).sent)) (sym counts)
              (subst (λ (r : Reached). Leads start (up_to all (k + 1)) (as_told new became.kernel r.left r.sent)) (sym (next_reached quantum machine left k runs)) leads_all);
          behind = logged_here.behind;
          last = more;
          kept = told_is;
          written = text_then counts;
        }

    -- It is over.
    ends_by : (finish : Finish) → turns ≡ k + 1 → (finish ≡ Blocked → LeadsOver quantum machine left all turns) → IsRunningAt quantum machine left k → last_entries all turns finish ≡ []
        → HasLog quantum machine left turns finish (text ++ entry_lines (number_of turns turn) (unwrap_or new.entries []))
    ends_by finish counts over runs none = record {
      entries = all;
      leads = leads_on_to counts runs;
      last = over;
      written = text_then counts ∙ sym (append-nil (logged all turns)) ∙ ap (λ (t : List ℕ). logged all turns ++ t) (sym none);
    }

    pub ended_log : (budget : ℕ) (finish : Finish) → turn ≡ Ended finish → IsOver quantum machine left budget turns finish before after became
        → HasLog quantum machine left turns finish (text ++ entry_lines (number_of turns turn) (unwrap_or new.entries []))
    ended_log budget (Exited status) is over =
        let counts : turns ≡ k + 1 = turned.counted ∙ ap (λ (t : code.Turn). k + turns_of t) is in
        ends_by (Exited status) counts (λ blocks. absurd cc) (over.over.1.first k (omega (arith, counts))) refl
    ended_log budget (Killed signal) is over =
        let counts : turns ≡ k + 1 = turned.counted ∙ ap (λ (t : code.Turn). k + turns_of t) is in
        ends_by (Killed signal) counts (λ blocks. absurd cc) (over.over.1.first k (omega (arith, counts))) refl
    ended_log budget Budget is over =
        let counts : turns ≡ k + 1 = turned.counted ∙ ap (λ (t : code.Turn). k + turns_of t) is in
        ends_by Budget counts (λ blocks. absurd cc) (over.over.1 k (omega (arith, counts, over.over.0))) refl
    ended_log budget Blocked is over =
        let none : turns ≡ k = turned.counted ∙ ap (λ (t : code.Turn). k + turns_of t) is ∙ add-zero k in
        subst (λ (n : ℕ). HasLog quantum machine left n Blocked (text ++ entry_lines (number_of turns turn) (unwrap_or new.entries []))) (sym none)
        (record {
          entries = all;
          leads = leads_to;
          last = λ blocks. leads_over;
          written =
              ap (λ (t : List ℕ). t ++ entry_lines (number_of turns turn) (unwrap_or new.entries [])) was.written
              ∙ ap (λ (t : List ℕ). logged was.entries j ++ t) (lines_are ∙ ap (λ (list : List LogEntry). entry_lines (k + 1) list) (sym (at_turn was.entries j turned.quiet more)))
              ∙ ap (λ (t : List ℕ). t ++ entry_lines (k + 1) (all k)) (sym (logged_quiet was.entries j turned.quiet more turned.quiet (omega arith)));
        })

    -- It is cut where its lines are added.
    pub partly_log : (budget finished : ℕ) → k ≡ finished → finished < budget → (part : List ℕ) → IsPrefix part (entry_lines (number_of turns turn) (unwrap_or new.entries []))
        → HasCutLog quantum machine left budget finished (text ++ part)
    partly_log budget finished is within part begins =
        let below : k < budget = omega (arith, is, within) in
        subst (λ (n : ℕ). HasCutLog quantum machine left budget n (text ++ part)) is
        (record {
          entries = all;
          leads = leads_to;
          next = inr (below, leads_over);
          written = (
            part,
            subst (λ (l : List ℕ). IsPrefix part l) (lines_are ∙ ap (λ (list : List LogEntry). entry_lines (k + 1) list) (sym (at_turn was.entries j turned.quiet more))) begins,
            ap (λ (t : List ℕ). t ++ part) (was.written ∙ sym (logged_quiet was.entries j turned.quiet more turned.quiet (omega arith))),
          );
        })

-- The budget's turns are done.
module _ (quantum : ℕ) (machine : Machine) (left : List ℕ) (turns : ℕ) (native : NativeLog) (kernel : Kernel) (text : List ℕ) (was : SoLogged quantum machine left turns native kernel text) where
  pub whole_log : HasLog quantum machine left turns Budget text
  whole_log = record { entries = was.entries; leads = was.leads; last = λ blocks. absurd cc; written = was.written ∙ sym (append-nil (logged was.entries turns)) }

  -- or the run stops then
  abbrev none_then : ℕ → List LogEntry
  none_then = with_turn was.entries turns 0 []

  pub cut_log : (budget : ℕ) → HasCutLog quantum machine left budget turns text
  cut_log budget =
      let at_end : none_then turns ≡ [] = ap none_then (sym (add-zero turns)) ∙ at_turn was.entries turns 0 [] in
      let all : logged none_then turns ≡ logged was.entries turns =
      ap (λ (n : ℕ). logged none_then n) (sym (add-zero turns)) ∙ logged_quiet was.entries turns 0 [] 0 (omega arith) in
      record {
        entries = none_then;
        leads = λ k within.
            subst (λ (list : List LogEntry). IsHistory machine left list (reached quantum machine left k).machine.kernel (reached quantum machine left k).left (reached quantum machine left k).sent)
            (sym (up_to_before was.entries turns 0 [] k within)) (was.leads k within);
        next = inl at_end;
        written = ([], IsPrefix-empty (entry_lines (turns + 1) (none_then turns)), was.written ∙ sym all ∙ sym (append-nil (logged none_then turns)));
      }
