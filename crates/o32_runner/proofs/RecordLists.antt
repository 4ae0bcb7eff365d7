-- The records of a run, and the text of its journal, turn by turn.
use Rattle.std.proofs.Common.{◌≡◌, ℕ, zero, suc, ◌+◌, ◌<◌, ◌≤◌, ◌⊎◌, Bool, true, List, [], ◌∷◌, ◌++◌, Option, Some, None, Result, Ok, Err, inl, inr, arith, refl, sym, ap, ◌∙◌, subst, add-zero, append-nil, append_assoc}
use Rattle.std.specs.Prelude.{unwrap_or}
use Rattle.std.proofs.lemmas.List.Concat.{flat_map-append}
use Rattle.journal.specs.Text.{record_text}
use Rattle.kernel_core.specs.declared.core_error.Stop.{Stop}
use Rattle.kernel_core.specs.declared.event.Event.{Event}
use Rattle.kernel_core.specs.declared.finish.Finish.{Finish}
use Rattle.kernel_core.specs.declared.finish.Finish.TheVariants.{Exited, Killed, Budget, Blocked}
use Rattle.kernel_core.specs.declared.record.Record.{Record}
use Rattle.o32_machine.specs.Answered.{over_of, turns_of}
use Rattle.o32_machine.specs.Quiet.{IsQuiet, IsTurnAfter}
use Rattle.o32_machine.specs.Records.{LastRecorded, RecordsTurns}
use Rattle.o32_machine.specs.declared.turn.Turn as code
use Rattle.o32_machine.specs.declared.turn.Turn.TheVariants.{Went, Ended}
use Rattle.o32_turns.specs.Machine.{Machine, Turn}
use Rattle.o32_turns.specs.Runs.{Reached, attempt, is_blocked, reached}
use Rattle.outside.specs.Output.{IsPrefix}
use Rattle.outside.specs.Streams.{Contents}
use Rattle.outside.proofs.OutputLemmas.{IsPrefix-empty}
use Rattle.turn_records.specs.Keeping.{Gained, Gains, Records, emptied, first_records}
use Rattle.turn_records.specs.Run.{AreRecordsUpTo, end_of, unless_ended}
use Rattle.turn_records.specs.Turn.{AreRecordsOf, IsTurnRecorded, unless_none}
use Rattle.o32_runner.specs.JournalText.{HasCutJournal, HasJournal, end_behind, front_after, front_to_come, records_text}
use Rattle.o32_runner.specs.Runs.{IsOver, IsSoFar}
use Rattle.o32_runner.specs.inside.Told.{budget_record, end_told, told_records}
use Rattle.o32_runner.proofs.Telling.{answered, attempt_is, so_then}
use Rattle.o32_runner.proofs.Traces.{there}

-- The front

module _ (front : List ℕ) where
  -- it stands where it stood, where there is none or no turn was taken
  pub front_kept : (j k : ℕ) → j ≤ k → (front_to_come j front ≡ []) ⊎ (k ≡ j) → front_after k front ≡ front_after j front
  front_kept j k more (inr same) = ap (λ (n : ℕ). front_after n front) same
  front_kept zero zero more (inl none) = refl
  front_kept zero (suc k) more (inl none) = none
  front_kept (suc j) zero more (inl none) = absurd (omega arith)
  front_kept (suc j) (suc k) more (inl none) = refl

  pub front_coming : (j k : ℕ) → j ≤ k → (front_to_come j front ≡ []) ⊎ (k ≡ j) → front_to_come j front ≡ front_to_come k front
  front_coming j k more (inr same) = sym (ap (λ (n : ℕ). front_to_come n front) same)
  front_coming zero zero more (inl none) = refl
  front_coming zero (suc k) more (inl none) = none
  front_coming (suc j) zero more (inl none) = absurd (omega arith)
  front_coming (suc j) (suc k) more (inl none) = refl

  -- it was written with the first turn
  pub front_whole : (k : ℕ) → front_after (k + 1) front ≡ front
  front_whole k = let next : k + 1 ≡ suc k = omega arith in ap (λ (n : ℕ). front_after n front) next

  pub front_gone : (k : ℕ) → front_to_come (k + 1) front ≡ []
  front_gone k = let next : k + 1 ≡ suc k = omega arith in ap (λ (n : ℕ). front_to_come n front) next

-- Records

texts_joined : (records more : List Record) → records_text (records ++ more) ≡ records_text records ++ records_text more
texts_joined records more = flat_map-append record_text records more

module _ (quantum : ℕ) (machine : Machine) (left : List ℕ) where
  -- a turn more of a process that goes on
  pub one_more : (k : ℕ) (records last : List Record) → (reached quantum machine left k).over ≡ None → AreRecordsUpTo quantum machine left k records
      → AreRecordsOf quantum (k + 1) (reached quantum machine left k).machine (reached quantum machine left k).left last → AreRecordsUpTo quantum machine left (k + 1) (records ++ last)
  unfolding AreRecordsUpTo
  one_more k records last alive are of =
      let here = reached quantum machine left k in
      let next : k + 1 ≡ suc k = omega arith in
      let latest : unless_ended here.over last (AreRecordsOf quantum (suc k) here.machine here.left last) =
      subst (λ (o : Option Finish). unless_ended o last (AreRecordsOf quantum (suc k) here.machine here.left last)) (sym alive)
      (subst (λ (n : ℕ). AreRecordsOf quantum n here.machine here.left last) next of) in
      let more : AreRecordsUpTo quantum machine left (suc k) (records ++ last) = record { before = records; last = last; whole = refl; earlier = are; latest = latest } in
      subst (λ (n : ℕ). AreRecordsUpTo quantum machine left n (records ++ last)) (sym next) more

  -- The text behind that of the first k turns, which have these records, is that of the whole.
  pub joined : (front : List ℕ) (k : ℕ) (records more : List Record) → AreRecordsUpTo quantum machine left k records
      → (front_after k front ++ records_text records) ++ (front_to_come k front ++ records_text more) ≡ front ++ records_text (records ++ more)
  unfolding AreRecordsUpTo
  joined front zero records more none =
      ap (λ (list : List Record). records_text list ++ (front ++ records_text more)) none
      ∙ ap (λ (list : List Record). front ++ records_text (list ++ more)) (sym none)
  joined front (suc k) records more are =
      append_assoc front (records_text records) (records_text more)
      ∙ ap (λ (t : List ℕ). front ++ t) (sym (texts_joined records more))

-- What is kept so far

pub record SoKept (front : List ℕ) (quantum : ℕ) (machine : Machine) (left : List ℕ) (turns : ℕ) (kept : Records) (text : List ℕ) : Type 0 where
  pub records : List Record
  pub are : AreRecordsUpTo quantum machine left turns records
  pub last : List Record
  pub is_kept : kept ≡ Some last
  pub written : text ≡ front_after turns front ++ records_text records

begins_at : (front : List ℕ) (quantum : ℕ) (machine : Machine) (left : List ℕ) → SoKept front quantum machine left 0 (first_records true) []
unfolding AreRecordsUpTo
begins_at front quantum machine left = record { records = []; are = refl; last = []; is_kept = refl; written = refl }

pub begins_kept : (front : List ℕ) (quantum : ℕ) (machine : Machine) (left : List ℕ) (turns : ℕ) (kept : Records) → turns ≡ 0 → kept ≡ first_records true → SoKept front quantum machine left turns kept []
begins_kept front quantum machine left turns kept none first =
    subst (λ (n : ℕ). SoKept front quantum machine left n kept []) (sym none)
    (subst (λ (r : Records). SoKept front quantum machine left 0 r []) (sym first) (begins_at front quantum machine left))

-- the end that is told is the one that stands behind the records
ends_so : (k turns : ℕ) (turn : code.Turn) → turns ≡ k + turns_of turn → end_told turns turn ≡ end_behind k (over_of turn)
ends_so k turns Went counts = refl
ends_so k turns (Ended (Exited status)) counts = ap (λ (n : ℕ). end_of n (Exited status) ∷ []) counts
ends_so k turns (Ended (Killed signal)) counts = ap (λ (n : ℕ). end_of n (Killed signal) ∷ []) counts
ends_so k turns (Ended Budget) counts = ap (λ (n : ℕ). end_of n Budget ∷ []) counts
ends_so k turns (Ended Blocked) counts = ap (λ (n : ℕ). end_of n Blocked ∷ []) (counts ∙ add-zero k)

module _ (front : List ℕ) (quantum : ℕ) (machine : Machine) (left : List ℕ) (j q limit : ℕ) (before at after : Contents) (now became : Machine) (turns : ℕ) (events : List Event) (same : q ≡ quantum) (so : IsSoFar quantum machine left j before at now)
    (old : Records) (text : List ℕ) (was : SoKept front quantum machine left j old text) where
  abbrev here : Reached
  here = reached quantum machine left j

  -- Behind quiet turns
  module _ (result : Result code.Turn Stop) (turned : IsTurnAfter q limit now j result became turns events at after) (once : (front_to_come j front ≡ []) ⊎ (limit ≡ 1)) where
    abbrev k : ℕ
    k = j + turned.quiet

    none_or_same : (front_to_come j front ≡ []) ⊎ (k ≡ j)
    none_or_same = elim once [
      | inl none ↦ inl none
      | inr one ↦ inr (omega (arith, one, turned.within))
    ]

    further : j ≤ k
    further = omega arith

    quiet : IsQuiet quantum now turned.quiet turned.middle
    quiet = subst (λ (n : ℕ). IsQuiet n now turned.quiet turned.middle) same turned.first

    at_there : (d n : ℕ) (list : List Record) → AreRecordsOf quantum n (reached quantum now here.left d).machine (reached quantum now here.left d).left list
        → AreRecordsOf quantum n (reached quantum machine left (j + d)).machine (reached quantum machine left (j + d)).left list
    at_there d n list are =
        subst (λ (r : Reached). AreRecordsOf quantum n r.machine r.left list) (sym (there quantum machine left j before at now so d)) are

    -- which have none
    are_quiet : (d : ℕ) → d ≤ turned.quiet → AreRecordsUpTo quantum machine left (j + d) was.records
    are_quiet zero within = subst (λ (n : ℕ). AreRecordsUpTo quantum machine left n was.records) (sym (add-zero j)) was.are
    are_quiet (suc d) within =
        let next : j + suc d ≡ j + d + 1 = omega arith in
        let below : d < turned.quiet = omega arith in
        let runs : j + d < k = omega arith in
        let alive : (reached quantum machine left (j + d)).over ≡ None = ((so_then quantum machine left j q limit before at after now became turns events same so result turned).first (j + d) runs).alive in
        subst (λ (n : ℕ). AreRecordsUpTo quantum machine left n was.records) (sym next)
        (subst (λ (list : List Record). AreRecordsUpTo quantum machine left (j + d + 1) list) (append-nil was.records)
        (one_more quantum machine left (j + d) was.records [] alive (are_quiet d (omega arith)) (at_there d (j + d + 1) [] (quiet.unrecorded here.left d (j + d + 1) below))))

    pub are_then : AreRecordsUpTo quantum machine left k was.records
    are_then = are_quiet turned.quiet (omega arith)

    pub written_then : text ≡ front_after k front ++ records_text was.records
    written_then = was.written ∙ ap (λ (t : List ℕ). t ++ records_text was.records) (sym (front_kept front j k further none_or_same))

    pub coming_then : front_to_come j front ≡ front_to_come k front
    coming_then = front_coming front j k further none_or_same

  -- A turn stopped early: nothing more was kept.
  pub stopped_kept : (budget : ℕ) (stop : Stop) → IsTurnAfter q limit now j (Err stop) became turns events at after → (front_to_come j front ≡ []) ⊎ (limit ≡ 1) → HasCutJournal front quantum machine left budget turns text
  stopped_kept budget stop turned once =
      let counts : j + turned.quiet ≡ turns = omega (arith, turned.counted) in
      let there_k = k (Err stop) turned once in
      subst (λ (n : ℕ). HasCutJournal front quantum machine left budget n text) counts
      (record {
        records = was.records;
        are = are_then (Err stop) turned once;
        next = [];
        are_next = inl refl;
        written = (
          [],
          IsPrefix-empty (front_to_come there_k front ++ []),
          written_then (Err stop) turned once ∙ sym (append-nil (front_after there_k front ++ records_text was.records)),
        );
      })

  -- A turn was finished.
  module _ (turn : code.Turn) (turned : IsTurnAfter q limit now j (Ok turn) became turns events at after) (once : (front_to_come j front ≡ []) ⊎ (limit ≡ 1)) (new : Records) (keeps : RecordsTurns (Ok turn) q now j turns old new at) where
    abbrev at_k : ℕ
    at_k = k (Ok turn) turned once

    last_recorded : LastRecorded quantum now j here.left (Ok turn) turns old new
    last_recorded = subst (λ (n : ℕ). LastRecorded n now j here.left (Ok turn) turns old new) same (keeps here.left so.rest)

    as_quiet : last_recorded.quiet ≡ turned.quiet
    as_quiet = omega (arith, last_recorded.counted, turned.counted)

    gains : Gains (emptied old) new (AreRecordsOf quantum (at_k + 1) (reached quantum now here.left turned.quiet).machine here.left)
    gains = subst (λ (n : ℕ). Gains (emptied old) new (AreRecordsOf quantum (j + n + 1) (reached quantum now here.left n).machine here.left)) as_quiet last_recorded.gains

    gained : Gained [] new (AreRecordsOf quantum (at_k + 1) (reached quantum now here.left turned.quiet).machine here.left)
    gained = gains.kept [] (ap emptied was.is_kept)

    -- its records
    abbrev own : List Record
    own = gained.more

    stays_there : (reached quantum now here.left turned.quiet).left ≡ here.left
    stays_there = ((quiet (Ok turn) turned once).still here.left turned.quiet (omega arith)).rest

    own_are : AreRecordsOf quantum (at_k + 1) (reached quantum machine left at_k).machine (reached quantum machine left at_k).left own
    own_are =
        at_there (Ok turn) turned once turned.quiet (at_k + 1) own
        (subst (λ (l : List ℕ). AreRecordsOf quantum (at_k + 1) (reached quantum now here.left turned.quiet).machine l own) (sym stays_there) gained.are)

    -- what is added
    abbrev added : List Record
    added = told_records turns turn own

    abbrev told : List ℕ
    told = front_to_come j front ++ records_text (told_records turns turn (unwrap_or new []))

    told_is : told ≡ front_to_come at_k front ++ records_text added
    told_is =
        ap (λ (r : Records). front_to_come j front ++ records_text (told_records turns turn (unwrap_or r []))) gained.whole
        ∙ ap (λ (t : List ℕ). t ++ records_text added) (coming_then (Ok turn) turned once)

    -- the whole text
    all_told : text ++ told ≡ front ++ records_text (was.records ++ added)
    all_told =
        ap (λ (t : List ℕ). t ++ told) (written_then (Ok turn) turned once)
        ∙ ap (λ (t : List ℕ). (front_after at_k front ++ records_text was.records) ++ t) told_is
        ∙ joined quantum machine left front at_k was.records added (are_then (Ok turn) turned once)

    alive_here : (reached quantum machine left at_k).over ≡ None
    alive_here = (so_then quantum machine left j q limit before at after now became turns events same so (Ok turn) turned).alive

    are_on : turns ≡ at_k + 1 → AreRecordsUpTo quantum machine left turns (was.records ++ own)
    are_on counts =
        subst (λ (n : ℕ). AreRecordsUpTo quantum machine left n (was.records ++ own)) (sym counts)
        (one_more quantum machine left at_k was.records own alive_here (are_then (Ok turn) turned once) own_are)

    -- The run goes on.
    pub went_kept : turn ≡ Went → SoKept front quantum machine left turns new (text ++ told)
    went_kept is =
        let counts : turns ≡ at_k + 1 = turned.counted ∙ ap (λ (t : code.Turn). at_k + turns_of t) is in
        record {
          records = was.records ++ own;
          are = are_on counts;
          last = own;
          is_kept = gained.whole;
          written =
              all_told
              ∙ ap (λ (t : code.Turn). front ++ records_text (was.records ++ told_records turns t own)) is
              ∙ ap (λ (list : List Record). front ++ records_text (was.records ++ list)) (append-nil own)
              ∙ ap (λ (t : List ℕ). t ++ records_text (was.records ++ own)) (sym (ap (λ (n : ℕ). front_after n front) counts ∙ front_whole front at_k));
        }

    -- It is over.
    ends_by : (budget : ℕ) (finish : Finish) → turns ≡ at_k + 1 → turn ≡ Ended finish → IsOver quantum machine left budget turns finish before after became → HasJournal front quantum machine left budget turns finish (text ++ told)
    ends_by budget finish counts is over = record {
      records = (was.records ++ own) ++ end_of turns finish ∷ [];
      are = record { over = over.over; turns = was.records ++ own; so_far = are_on counts; whole = refl };
      written =
          all_told
          ∙ ap (λ (t : code.Turn). front ++ records_text (was.records ++ told_records turns t own)) is
          ∙ ap (λ (list : List Record). front ++ records_text list) (sym (append_assoc was.records own (end_of turns finish ∷ [])));
    }

    pub ended_kept : (budget : ℕ) (finish : Finish) → turn ≡ Ended finish → IsOver quantum machine left budget turns finish before after became → HasJournal front quantum machine left budget turns finish (text ++ told)
    ended_kept budget (Exited status) is over = ends_by budget (Exited status) (turned.counted ∙ ap (λ (t : code.Turn). at_k + turns_of t) is) is over
    ended_kept budget (Killed signal) is over = ends_by budget (Killed signal) (turned.counted ∙ ap (λ (t : code.Turn). at_k + turns_of t) is) is over
    ended_kept budget Budget is over = ends_by budget Budget (turned.counted ∙ ap (λ (t : code.Turn). at_k + turns_of t) is) is over
    ended_kept budget Blocked is over =
        let none : turns ≡ at_k = turned.counted ∙ ap (λ (t : code.Turn). at_k + turns_of t) is ∙ add-zero at_k in
        let waits : is_blocked (attempt quantum machine left at_k) ≡ true = ap (λ (n : ℕ). is_blocked (attempt quantum machine left n)) (sym none) ∙ over.over.1.waits in
        let no_own : own ≡ [] =
        subst (λ (b : Bool). unless_none b own (IsTurnRecorded (at_k + 1) (reached quantum machine left at_k).machine (reached quantum machine left at_k).left own)) waits own_are in
        record {
          records = was.records ++ end_of turns Blocked ∷ [];
          are = record {
            over = over.over;
            turns = was.records;
            so_far = subst (λ (n : ℕ). AreRecordsUpTo quantum machine left n was.records) (sym none) (are_then (Ok turn) turned once);
            whole = refl;
          };
          written =
              all_told
              ∙ ap (λ (t : code.Turn). front ++ records_text (was.records ++ told_records turns t own)) is
              ∙ ap (λ (list : List Record). front ++ records_text (was.records ++ (list ++ end_of turns Blocked ∷ []))) no_own;
        }

    -- It is cut where its records are added.
    pub partly_kept : (budget finished : ℕ) → at_k ≡ finished → finished < budget → (part : List ℕ) → IsPrefix part told → HasCutJournal front quantum machine left budget finished (text ++ part)
    partly_kept budget finished is within part begins =
        let below : at_k < budget = omega (arith, is, within) in
        let came = answered quantum machine left j q limit before at after now became turns events same so turn turned in
        let tried = attempt_is quantum machine left j q limit before at after now became turns events same so (Ok turn) turned in
        let over_is : (attempt quantum machine left at_k).over ≡ over_of turn = ap (λ (t : Turn). t.over) tried ∙ sym came.came in
        let whole : added ≡ own ++ end_behind at_k (attempt quantum machine left at_k).over =
        ap (λ (list : List Record). own ++ list) (ends_so at_k turns turn turned.counted ∙ ap (λ (o : Option Finish). end_behind at_k o) (sym over_is)) in
        subst (λ (n : ℕ). HasCutJournal front quantum machine left budget n (text ++ part)) is
        (record {
          records = was.records;
          are = are_then (Ok turn) turned once;
          next = added;
          are_next = inr (inl (below, record { own = own; are = own_are; whole = whole }));
          written = (
            part,
            subst (λ (t : List ℕ). IsPrefix part t) told_is begins,
            ap (λ (t : List ℕ). t ++ part) (written_then (Ok turn) turned once),
          );
        })

-- The budget's turns are done.
module _ (front : List ℕ) (quantum : ℕ) (machine : Machine) (left : List ℕ) (turns : ℕ) (kept : Records) (text : List ℕ) (was : SoKept front quantum machine left turns kept text) where
  pub whole_kept : (budget : ℕ) (before at : Contents) (now : Machine) → IsOver quantum machine left budget turns Budget before at now
      → HasJournal front quantum machine left budget turns Budget (text ++ budget_record (front_to_come turns front) turns)
  whole_kept budget before at now over = record {
    records = was.records ++ end_of turns Budget ∷ [];
    are = record { over = over.over; turns = was.records; so_far = was.are; whole = refl };
    written =
        ap (λ (t : List ℕ). t ++ budget_record (front_to_come turns front) turns) was.written
        ∙ joined quantum machine left front turns was.records (end_of turns Budget ∷ []) was.are;
  }

  -- or the run stops then
  pub cut_kept : (budget : ℕ) → turns ≡ budget → (part : List ℕ) → IsPrefix part (budget_record (front_to_come turns front) turns) → HasCutJournal front quantum machine left budget turns (text ++ part)
  cut_kept budget full part begins = record {
    records = was.records;
    are = was.are;
    next = end_of turns Budget ∷ [];
    are_next = inr (inr (full, refl));
    written = (part, begins, ap (λ (t : List ℕ). t ++ part) was.written);
  }
