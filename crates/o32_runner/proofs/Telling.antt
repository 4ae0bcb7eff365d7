-- What the lines of turns that were taken make of the text of a trace.
use Rattle.std.proofs.Common.{◌≡◌, ℕ, ◌+◌, ◌-◌, ◌<◌, ◌≤◌, Bool, true, false, List, [], ◌++◌, Option, Some, Result, Ok, Err, inl, inr, arith, refl, sym, ap, ◌∙◌, subst, add-zero, append-nil}
use Rattle.std.specs.Prelude.{◌==◌, if◌then◌else◌}
use Rattle.std.proofs.lemmas.Bool.{cases_eq}
use Rattle.std.proofs.lemmas.Bool.Decides.{nat_tests}
use Rattle.outside.specs.Output.{IsPrefix}
use Rattle.outside.specs.Streams.{Contents}
use Rattle.outside.proofs.OutputLemmas.{GainsBetween-exact, GainsBetween-lower, GainsBetween-nothing, IsPrefix-empty}
use Rattle.kernel_core.specs.declared.core_error.Stop.{Stop}
use Rattle.kernel_core.specs.declared.event.Event.{Event}
use Rattle.kernel_core.specs.declared.event.Event.TheVariants as event
use Rattle.kernel_core.specs.declared.finish.Finish.{Finish}
use Rattle.kernel_core.specs.declared.finish.Finish.TheVariants.{Exited, Killed, Budget, Blocked}
use Rattle.o32_machine.specs.Answered.{Stopped, Turned, over_of, turns_of}
use Rattle.o32_machine.specs.Quiet.{IsQuiet, IsTurnAfter}
use Rattle.o32_machine.specs.declared.turn.Turn as code
use Rattle.o32_machine.specs.declared.turn.Turn.TheVariants.{Went, Ended}
use Rattle.o32_turns.specs.Machine.{Machine, Turn}
use Rattle.o32_turns.specs.Runs.{attempt, is_block, is_blocked, reached}
use Rattle.o32_turns.specs.Turn.{turn_of}
use Rattle.trace_text.specs.Trace.{trace_line}
use Rattle.o32_runner.specs.Runs.{IsCut, IsOver, IsSoFar, turns_begun}
use Rattle.o32_runner.specs.Trace.{attempt_lines, blocked_line, next_lines, traced, turn_lines, whole_trace}
use Rattle.o32_runner.specs.Traced.{IsCutTrace, IsWholeTrace}
use Rattle.o32_runner.specs.inside.Told.{told_lines}
use Rattle.o32_runner.proofs.QuietTurns.{is_cut_after, is_done, quiet_then}
use Rattle.o32_runner.proofs.RunLemmas.{is_cut_by}
use Rattle.o32_runner.proofs.Traces.{next_traced, quiet_traced}
use Rattle.o32_runner.proofs.TurnEnds.{turn_ends}

-- a whole turn is a part of one
whole_part : (defined : Turn) (turn : code.Turn) (became : Machine) (events : List Event) (before after : Contents) → Turned defined turn became events before after → Stopped defined before after
whole_part defined turn became events before after turned = record {
  rest = inr turned.rest;
  to_out = GainsBetween-lower (IsPrefix-empty defined.sent.out) (GainsBetween-exact turned.to_out);
  to_err = GainsBetween-lower (IsPrefix-empty defined.sent.err) (GainsBetween-exact turned.to_err);
}

-- and so is nothing of it
no_part : (defined : Turn) (at : Contents) → Stopped defined at at
no_part defined at = record {
  rest = inl refl;
  to_out = GainsBetween-nothing at.out defined.sent.out;
  to_err = GainsBetween-nothing at.err defined.sent.err;
}

-- The turns that a run may have begun

not_there : (n budget : ℕ) → n < budget → (n == budget) ≡ false
not_there n budget below = grind (arith, nat_tests)

at_budget : (n budget : ℕ) → n ≡ budget → (n == budget) ≡ true
at_budget n budget is = grind (arith, nat_tests)

-- one more, below the budget
pub cut_within : (quantum : ℕ) (machine : Machine) (left : List ℕ) (k budget : ℕ) (before after : Contents) → k < budget → IsCut quantum machine left k (k + 1) before after → IsCut quantum machine left k (turns_begun budget k) before after
cut_within quantum machine left k budget before after below cut =
    subst (λ (b : Bool). IsCut quantum machine left k (if b then k else k + 1) before after) (sym (not_there k budget below)) cut

-- and none where the budget's turns are done
pub cut_full : (quantum : ℕ) (machine : Machine) (left : List ℕ) (k budget : ℕ) (before at : Contents) (now : Machine) → k ≡ budget → IsSoFar quantum machine left k before at now → IsCut quantum machine left k (turns_begun budget k) before at
cut_full quantum machine left k budget before at now full so =
    subst (λ (b : Bool). IsCut quantum machine left k (if b then k else k + 1) before at) (sym (at_budget k budget full)) (record {
      alive = so.alive;
      first = so.first;
      rest = inl so.rest;
      to_out = GainsBetween-exact so.to_out;
      to_err = GainsBetween-exact so.to_err;
    })

-- nothing more is done
cut_next : (quantum : ℕ) (machine : Machine) (left : List ℕ) (k : ℕ) (before at : Contents) (now : Machine) → IsSoFar quantum machine left k before at now → IsCut quantum machine left k (k + 1) before at
cut_next quantum machine left k before at now so =
    is_cut_by quantum machine left k quantum before at at now refl so (λ here told. no_part (turn_of quantum now here) at)

pub cut_here : (quantum : ℕ) (machine : Machine) (left : List ℕ) (k budget : ℕ) (before at : Contents) (now : Machine) → k ≤ budget → IsSoFar quantum machine left k before at now → IsCut quantum machine left k (turns_begun budget k) before at
cut_here quantum machine left k budget before at now within so =
    elim (cases_eq k budget) as (λ _. IsCut quantum machine left k (turns_begun budget k) before at) [
      | inl same ↦ cut_full quantum machine left k budget before at now same so
      | inr other ↦
          let below : k < budget = omega (arith, within, other) in
          cut_within quantum machine left k budget before at below (cut_next quantum machine left k before at now so)
    ]

module _ (quantum : ℕ) (machine : Machine) (left : List ℕ) (j q limit : ℕ) (before at after : Contents) (now became : Machine) (turns : ℕ) (events : List Event) (same : q ≡ quantum) (so : IsSoFar quantum machine left j before at now) where
  module _ (result : Result code.Turn Stop) (turned : IsTurnAfter q limit now j result became turns events at after) where
    -- the turns before the one that was told
    abbrev pub k : ℕ
    k = j + turned.quiet

    pub so_then : IsSoFar quantum machine left k before at turned.middle
    so_then = quiet_then quantum machine left j q limit before at after now became turns events same so result turned

    pub quiet_here : traced quantum machine left k ≡ traced quantum machine left j
    quiet_here = quiet_traced quantum machine left j before at now so turned.quiet turned.middle (subst (λ (n : ℕ). IsQuiet n now turned.quiet turned.middle) same turned.first)

    abbrev pub left_here : List ℕ
    left_here = (reached quantum machine left k).left

    pub attempt_is : attempt quantum machine left k ≡ turn_of quantum turned.middle left_here
    attempt_is = ap (λ (m : Machine). turn_of quantum m left_here) so_then.same

  module _ (turn : code.Turn) (turned : IsTurnAfter q limit now j (Ok turn) became turns events at after) where
    abbrev there : ℕ
    there = k (Ok turn) turned

    pub answered : Turned (turn_of quantum turned.middle (left_here (Ok turn) turned)) turn became events at after
    answered =
        subst (λ (n : ℕ). Turned (turn_of n turned.middle (left_here (Ok turn) turned)) turn became events at after) same
        (turned.last (left_here (Ok turn) turned) (so_then (Ok turn) turned).rest)

    happened : (attempt quantum machine left there).events ≡ events
    happened = ap (λ (t : Turn). t.events) (attempt_is (Ok turn) turned) ∙ sym answered.happened

    ended : (attempt quantum machine left there).over ≡ over_of turn
    ended = ap (λ (t : Turn). t.over) (attempt_is (Ok turn) turned) ∙ sym answered.came

    lines_are : attempt_lines quantum machine left there ≡ turn_lines (there + 1) events
    lines_are = ap (λ (l : List Event). turn_lines (there + 1) l) happened

    counted : turns ≡ there + turns_of turn
    counted = turned.counted

    -- the turn's lines are those that are written next
    next_by : (blocked : Bool) (lines : List ℕ) → is_block (over_of turn) ≡ blocked → turn_lines (there + 1) events ++ blocked_line there blocked ≡ lines
        → attempt_lines quantum machine left there ++ blocked_line there (is_blocked (attempt quantum machine left there)) ≡ lines
    next_by blocked lines is whole =
        ap (λ (b : Bool). attempt_lines quantum machine left there ++ blocked_line there b) (ap is_block ended ∙ is)
        ∙ ap (λ (l : List ℕ). l ++ blocked_line there blocked) lines_are
        ∙ whole

    one_more : (at_count : turns ≡ there + 1) → turn_lines (there + 1) events ++ blocked_line there false ≡ turn_lines turns events
    one_more at_count = append-nil (turn_lines (there + 1) events) ∙ ap (λ (n : ℕ). turn_lines n events) (sym at_count)

  told_is : (turn : code.Turn) (turned : IsTurnAfter q limit now j (Ok turn) became turns events at after)
      → attempt_lines quantum machine left (there turn turned) ++ blocked_line (there turn turned) (is_blocked (attempt quantum machine left (there turn turned))) ≡ told_lines turns turn events
  told_is Went turned = next_by Went turned false (turn_lines turns events) refl (one_more Went turned (counted Went turned))
  told_is (Ended (Exited status)) turned =
      next_by (Ended (Exited status)) turned false (turn_lines turns events) refl (one_more (Ended (Exited status)) turned (counted (Ended (Exited status)) turned))
  told_is (Ended (Killed signal)) turned =
      next_by (Ended (Killed signal)) turned false (turn_lines turns events) refl (one_more (Ended (Killed signal)) turned (counted (Ended (Killed signal)) turned))
  told_is (Ended Budget) turned =
      next_by (Ended Budget) turned false (turn_lines turns events) refl (one_more (Ended Budget) turned (counted (Ended Budget) turned))
  told_is (Ended Blocked) turned =
      let none : turns ≡ there (Ended Blocked) turned = counted (Ended Blocked) turned ∙ add-zero (there (Ended Blocked) turned) in
      next_by (Ended Blocked) turned true (told_lines turns (Ended Blocked) events) refl
      (ap (λ (n : ℕ). turn_lines (n + 1) events ++ trace_line n event.Blocked) (sym none))

  -- A turn that went is told.
  pub went_told : (turn : code.Turn) → turn ≡ Went → (turned : IsTurnAfter q limit now j (Ok turn) became turns events at after) (text : List ℕ) → text ≡ traced quantum machine left j
      → text ++ told_lines turns turn events ≡ traced quantum machine left turns
  went_told turn is turned text was =
      let at_count : turns ≡ there turn turned + 1 = counted turn turned ∙ ap (λ (t : code.Turn). there turn turned + turns_of t) is in
      let lines : told_lines turns turn events ≡ attempt_lines quantum machine left (there turn turned) =
      ap (λ (t : code.Turn). told_lines turns t events) is
      ∙ ap (λ (n : ℕ). turn_lines n events) at_count
      ∙ sym (lines_are turn turned) in
      ap (λ (t : List ℕ). t ++ told_lines turns turn events) (was ∙ sym (quiet_here (Ok turn) turned))
      ∙ ap (λ (l : List ℕ). traced quantum machine left (there turn turned) ++ l) lines
      ∙ sym (next_traced quantum machine left (there turn turned))
      ∙ ap (λ (n : ℕ). traced quantum machine left n) (sym at_count)

  -- So is the turn that ends the run.

  counts_one : (turn : code.Turn) (turned : IsTurnAfter q limit now j (Ok turn) became turns events at after) → turns_of turn ≡ 1 → told_lines turns turn events ≡ turn_lines turns events
      → traced quantum machine left j ++ told_lines turns turn events ≡ traced quantum machine left turns ++ []
  counts_one turn turned one plain =
      let at_count : turns ≡ there turn turned + 1 = counted turn turned ∙ ap (λ (n : ℕ). there turn turned + n) one in
      ap (λ (t : List ℕ). t ++ told_lines turns turn events) (sym (quiet_here (Ok turn) turned))
      ∙ ap (λ (l : List ℕ). traced quantum machine left (there turn turned) ++ l) (plain ∙ ap (λ (n : ℕ). turn_lines n events) at_count ∙ sym (lines_are turn turned))
      ∙ sym (next_traced quantum machine left (there turn turned))
      ∙ ap (λ (n : ℕ). traced quantum machine left n) (sym at_count)
      ∙ sym (append-nil (traced quantum machine left turns))

  end_told : (finish : Finish) (turned : IsTurnAfter q limit now j (Ok (Ended finish)) became turns events at after) → traced quantum machine left j ++ told_lines turns (Ended finish) events ≡ whole_trace quantum machine left turns finish
  end_told (Exited status) turned = counts_one (Ended (Exited status)) turned refl refl
  end_told (Killed signal) turned = counts_one (Ended (Killed signal)) turned refl refl
  end_told Budget turned =
      absurd (turn_ends quantum turned.middle (left_here (Ok (Ended Budget)) turned) Budget (sym (answered (Ended Budget) turned).came))
  end_told Blocked turned =
      let none : turns ≡ there (Ended Blocked) turned = counted (Ended Blocked) turned ∙ add-zero (there (Ended Blocked) turned) in
      ap (λ (t : List ℕ). t ++ told_lines turns (Ended Blocked) events) (sym (quiet_here (Ok (Ended Blocked)) turned))
      ∙ ap (λ (n : ℕ). traced quantum machine left n ++ (turn_lines (turns + 1) events ++ trace_line turns event.Blocked)) (sym none)
      ∙ ap (λ (l : List ℕ). traced quantum machine left turns ++ (l ++ trace_line turns event.Blocked))
      (ap (λ (n : ℕ). turn_lines (n + 1) events) none ∙ sym (lines_are (Ended Blocked) turned) ∙ ap (λ (n : ℕ). attempt_lines quantum machine left n) (sym none))

  pub ended_told : (turn : code.Turn) (finish : Finish) → turn ≡ Ended finish → IsTurnAfter q limit now j (Ok turn) became turns events at after → (text : List ℕ) → text ≡ traced quantum machine left j
      → text ++ told_lines turns turn events ≡ whole_trace quantum machine left turns finish
  ended_told turn finish is turned text was =
      ap (λ (t : List ℕ). t ++ told_lines turns turn events) was
      ∙ ap (λ (t : code.Turn). traced quantum machine left j ++ told_lines turns t events) is
      ∙ end_told finish (subst (λ (t : code.Turn). IsTurnAfter q limit now j (Ok t) became turns events at after) is turned)

  -- The lines of a turn that could be added in part are those that are written next.
  pub told_next : (budget : ℕ) (turn : code.Turn) (turned : IsTurnAfter q limit now j (Ok turn) became turns events at after) → j < budget → limit ≤ budget - j
      → next_lines quantum machine left budget (there turn turned) ≡ told_lines turns turn events
  told_next budget turn turned below room =
      let within : there turn turned < budget = omega (arith, turned.within) in
      ap (λ (b : Bool). if b then trace_line (there turn turned) event.Budget else (attempt_lines quantum machine left (there turn turned) ++ blocked_line (there turn turned) (is_blocked (attempt quantum machine left (there turn turned)))))
      (not_there (there turn turned) budget within)
      ∙ told_is turn turned

  -- A run that was taken on but not told is cut there.
  pub cut_untold : (turn : code.Turn) (turned : IsTurnAfter q limit now j (Ok turn) became turns events at after) → IsCut quantum machine left (there turn turned) (there turn turned + 1) before after
  cut_untold turn turned =
      is_cut_by quantum machine left (there turn turned) quantum before at after turned.middle refl (so_then (Ok turn) turned)
      (λ here told. untold here told)
    where
      untold : (here : List ℕ) → at.left ≡ Some here → Stopped (turn_of quantum turned.middle here) at after
      untold here told =
          whole_part (turn_of quantum turned.middle here) turn became events at after
          (subst (λ (n : ℕ). Turned (turn_of n turned.middle here) turn became events at after) same (turned.last here told))

-- What a trace has after so many turns
abbrev pub SoTraced : ℕ → Machine → ℕ → Option (List ℕ) → List ℕ → Type 0
SoTraced quantum machine k told text = (left : List ℕ) → told ≡ Some left → text ≡ traced quantum machine left k

-- it has nothing at the start
pub none_traced : (quantum : ℕ) (machine : Machine) (left : List ℕ) (k : ℕ) → k ≡ 0 → [] ≡ traced quantum machine left k
unfolding traced
none_traced quantum machine left k none = ap (λ (n : ℕ). traced quantum machine left n) (sym none)

-- The run is cut in a turn, or where its lines are added.
module _ (quantum : ℕ) (machine : Machine) (budget j q limit : ℕ) (before at after : Contents) (now became : Machine) (turns : ℕ) (events : List Event) (same : q ≡ quantum)
    (so : (left : List ℕ) → before.left ≡ Some left → IsSoFar quantum machine left j before at now) (below : j < budget) (room : limit ≤ budget - j) where
  -- in a turn
  pub cut_in : (stop : Stop) → IsTurnAfter q limit now j (Err stop) became turns events at after → (left : List ℕ) → before.left ≡ Some left → IsCut quantum machine left turns (turns_begun budget turns) before after
  cut_in stop turned left told =
      let within : turns < budget = omega (arith, below, room, turned.within, turned.counted) in
      cut_within quantum machine left turns budget before after within
      (is_cut_after quantum machine left j q limit before at after now became turns events same (so left told) stop turned)

  pub untold : (stop : Stop) (turned : IsTurnAfter q limit now j (Err stop) became turns events at after) (text : List ℕ) → SoTraced quantum machine j before.left text → IsCutTrace quantum machine budget turns before.left text
  untold stop turned text had left told =
      let here : j + turned.quiet ≡ turns = omega (arith, turned.counted) in (
        [],
        IsPrefix-empty (next_lines quantum machine left budget turns),
        had left told
            ∙ sym (quiet_here quantum machine left j q limit before at after now became turns events same (so left told) (Err stop) turned)
            ∙ ap (λ (n : ℕ). traced quantum machine left n) here
            ∙ sym (append-nil (traced quantum machine left turns)),
      )

  -- or behind it
  module _ (turn : code.Turn) (turned : IsTurnAfter q limit now j (Ok turn) became turns events at after) (finished : ℕ) (counts : turns ≡ finished + turns_of turn) where
    pub before_it : j + turned.quiet ≡ finished
    before_it = omega (arith, counts, turned.counted)

    pub within_budget : finished < budget
    within_budget = omega (arith, below, room, before_it, turned.within)

    pub cut_behind : (left : List ℕ) → before.left ≡ Some left → IsCut quantum machine left finished (turns_begun budget finished) before after
    cut_behind left told =
        cut_within quantum machine left finished budget before after within_budget
        (subst (λ (n : ℕ). IsCut quantum machine left n (n + 1) before after) before_it
        (cut_untold quantum machine left j q limit before at after now became turns events same (so left told) turn turned))

    pub partly_told : (text part : List ℕ) → IsPrefix part (told_lines turns turn events) → SoTraced quantum machine j before.left text → IsCutTrace quantum machine budget finished before.left (text ++ part)
    partly_told text part begins had left told = (
      part,
      subst (λ (n : ℕ). IsPrefix part (next_lines quantum machine left budget n)) before_it
          (subst (λ (l : List ℕ). IsPrefix part l) (sym (told_next quantum machine left j q limit before at after now became turns events same (so left told) budget turn turned below room)) begins),
      ap (λ (t : List ℕ). t ++ part)
          (had left told
          ∙ sym (quiet_here quantum machine left j q limit before at after now became turns events same (so left told) (Ok turn) turned)
          ∙ ap (λ (n : ℕ). traced quantum machine left n) before_it),
    )

-- The budget's turns are done.
module _ (quantum : ℕ) (machine : Machine) (budget j turns became : ℕ) (before at : Contents) (now : Machine)
    (so : (left : List ℕ) → before.left ≡ Some left → IsSoFar quantum machine left j before at now) (full : j ≡ budget) (counts : turns ≡ j) (same : became ≡ turns) where
  pub done_run : (left : List ℕ) → before.left ≡ Some left → IsOver quantum machine left budget became Budget before at now
  done_run left told = is_done quantum machine left j budget became before at now (so left told) full (same ∙ counts)

  pub cut_run : (left : List ℕ) → before.left ≡ Some left → IsCut quantum machine left became (turns_begun budget became) before at
  cut_run left told =
      subst (λ (n : ℕ). IsCut quantum machine left n (turns_begun budget n) before at) (sym (same ∙ counts)) (cut_full quantum machine left j budget before at now full (so left told))

  next_is : (left : List ℕ) → next_lines quantum machine left budget became ≡ trace_line turns event.Budget
  next_is left =
      ap (λ (b : Bool). if b then trace_line became event.Budget else (attempt_lines quantum machine left became ++ blocked_line became (is_blocked (attempt quantum machine left became))))
      (at_budget became budget (same ∙ counts ∙ full))
      ∙ ap (λ (n : ℕ). trace_line n event.Budget) same

  pub done_told : (text : List ℕ) → SoTraced quantum machine j before.left text → IsWholeTrace quantum machine became Budget before.left (text ++ trace_line turns event.Budget)
  done_told text had left told =
      ap (λ (t : List ℕ). t ++ trace_line turns event.Budget) (had left told)
      ∙ ap (λ (n : ℕ). traced quantum machine left n ++ trace_line turns event.Budget) (sym (same ∙ counts))
      ∙ ap (λ (n : ℕ). traced quantum machine left became ++ trace_line n event.Budget) (sym same)

  pub done_partly : (text part : List ℕ) → IsPrefix part (trace_line turns event.Budget) → SoTraced quantum machine j before.left text → IsCutTrace quantum machine budget became before.left (text ++ part)
  done_partly text part begins had left told = (
    part,
    subst (λ (l : List ℕ). IsPrefix part l) (sym (next_is left)) begins,
    ap (λ (t : List ℕ). t ++ part) (had left told ∙ ap (λ (n : ℕ). traced quantum machine left n) (sym (same ∙ counts))),
  )
