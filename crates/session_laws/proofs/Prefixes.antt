-- Each turn of a run is repeated by the replay of all its records.
use Rattle.std.proofs.Common.{◌≡◌, ℕ, zero, suc, ◌<◌, ◌≤◌, ◌+◌, Bool, true, false, List, [], ◌∷◌, ◌++◌, Option, Some, None, inl, inr, refl, sym, ap, subst, ◌∙◌, append_assoc, arith}
use Rattle.std.proofs.lemmas.Bool.{cases_lt}
use Rattle.std.specs.Prelude.{◌&&◌, ◌||◌}
use Rattle.journal_laws.proofs.FewTurns.{reached_few}
use Rattle.journal_laws.proofs.Pending.{Few, few_signals}
use Rattle.journal_laws.proofs.Records.{comes_here, standing}
use Rattle.journal_laws.proofs.Runs.{as_turn, repeats}
use Rattle.journal_laws.proofs.Turning.{Follows, Known, known}
use Rattle.journal_laws.proofs.Turns.{follows_before}
use Rattle.journal_laws.specs.Replaying.{IsRepeated, replay_from}
use Rattle.kernel_core.specs.declared.finish.Finish.{Finish}
use Rattle.kernel_core.specs.declared.finish.Finish.TheVariants.{Exited, Killed, Budget, Blocked}
use Rattle.kernel_core.specs.declared.record.Record.{Record}
use Rattle.kernel_model.specs.Always.{AreSignals}
use Rattle.o32_turns.specs.Machine.{Machine}
use Rattle.o32_turns.specs.Runs.{IsOverAt, IsRunningAt, Reached, after_turn, reached, unless_blocked, unless_over}
use Rattle.o32_turns.specs.Turn.{turn_of}
use Rattle.replay_core.specs.Replay.{Replay, before_kind, comes, end_kind, is_killing, replayed}
use Rattle.turn_records.specs.Run.{AreRecordsOfRun, AreRecordsUpTo, end_of, unless_ended}
use Rattle.turn_records.specs.Turn as records

-- The records of so many turns, and those that follow them
record Cut (quantum : ℕ) (machine : Machine) (input : List ℕ) (all : List Record) (turns : ℕ) : Type 0 where
  given : List Record
  rest : List Record
  whole : all ≡ given ++ rest
  recorded : AreRecordsUpTo quantum machine input turns given
  follows : Follows turns (as_turn (reached quantum machine input turns)) rest

module _ (quantum : ℕ) (machine : Machine) (input : List ℕ) where
  abbrev at : ℕ → Reached
  at turns = reached quantum machine input turns

  next_reached : (turns : ℕ) → IsRunningAt quantum machine input turns
      → at (suc turns) ≡ after_turn (at turns).sent (turn_of quantum (at turns).machine (at turns).left)
  unfolding reached
  next_reached turns running =
      let before = at turns in
      let came = turn_of quantum before.machine before.left in
      ap (unless_over quantum before) running.alive ∙ ap (unless_blocked before came) running.awake

  turn_recorded : (turns : ℕ) (last : List Record) → IsRunningAt quantum machine input turns
      → unless_ended (at turns).over last (records.AreRecordsOf quantum (suc turns) (at turns).machine (at turns).left last)
      → records.IsTurnRecorded (suc turns) (at turns).machine (at turns).left last
  turn_recorded turns last running recorded =
      let before = at turns in
      let of_turn = records.IsTurnRecorded (suc turns) before.machine before.left last in
      subst (λ (b : Bool). records.unless_none b last of_turn) running.awake
      (subst (λ (o : Option Finish). unless_ended o last (records.AreRecordsOf quantum (suc turns) before.machine before.left last)) running.alive recorded)

  module _ (few : Few machine.kernel) (all : List Record) where
    -- the last turn's records come to those that follow
    one_less : (turns : ℕ) → IsRunningAt quantum machine input turns → Cut quantum machine input all (suc turns) → Cut quantum machine input all turns
    unfolding AreRecordsUpTo
    one_less turns running cut =
        let recorded = cut.recorded in
        let next = next_reached turns running in
        let facts : Known (at turns).machine (records.before_instruction (at turns).machine) =
        known (at turns).machine (reached_few quantum machine input turns few) in
        let there = subst (λ (r : Reached). Follows (suc turns) (as_turn r) cut.rest) next cut.follows in
        let follows : Follows (suc turns) (turn_of quantum (at turns).machine (at turns).left) cut.rest =
        record { later = there.later; killed = there.killed; excused = there.excused } in
        record {
          given = recorded.before;
          rest = recorded.last ++ cut.rest;
          whole = cut.whole ∙ (ap (λ (l : List Record). l ++ cut.rest) recorded.whole ∙ append_assoc recorded.before recorded.last cut.rest);
          recorded = recorded.earlier;
          follows =
              follows_before quantum (at turns).machine (at turns).left turns recorded.last cut.rest facts (turn_recorded turns recorded.last running recorded.latest) follows
              (as_turn (at turns)) refl running.alive;
        }

    -- so they can be cut behind each turn
    cut_at : (done turns : ℕ) → turns ≤ done → ((j : ℕ) → j < done → IsRunningAt quantum machine input j) → Cut quantum machine input all done → Cut quantum machine input all turns
    cut_at zero turns within runs cut = subst (Cut quantum machine input all) (let same : zero ≡ turns = omega (arith, within) in same) cut
    cut_at (suc done) turns within runs cut =
        elim (cases_lt turns (suc done)) as (λ _. Cut quantum machine input all turns) [
          | inl fewer ↦ cut_at done turns (omega (arith, fewer)) (λ j below. runs j (omega (arith, below))) (one_less done (runs done (omega arith)) cut)
          | inr as_many ↦ subst (Cut quantum machine input all) (let same : suc done ≡ turns = omega (arith, within, as_many) in same) cut
        ]

  -- The end

  runs_before : (budget turns : ℕ) (finish : Finish) → IsOverAt quantum machine input budget turns finish → (j : ℕ) → j < turns → IsRunningAt quantum machine input j
  runs_before budget turns (Exited status) over j below = over.1.first j below
  runs_before budget turns (Killed signal) over j below = over.1.first j below
  runs_before budget turns Budget over j below = over.1 j (omega (arith, below, over.0))
  runs_before budget turns Blocked over j below = over.1.first j below

  ends_so : (budget turns : ℕ) (finish : Finish) → IsOverAt quantum machine input budget turns finish → is_killing (Some finish) ≡ is_killing (at turns).over
  ends_so budget turns (Exited status) over = ap is_killing (sym over.1.ended)
  ends_so budget turns (Killed signal) over = ap is_killing (sym over.1.ended)
  ends_so budget turns Budget over = ap is_killing (sym (ap (λ (n : ℕ). (at n).over) over.0 ∙ over.2))
  ends_so budget turns Blocked over = ap is_killing (sym over.1.alive)

  or_third : (a b c : Bool) → c ≡ true → (a || (b || c)) ≡ true
  or_third true b c is = refl
  or_third false true c is = refl
  or_third false false c is = is

  follows_end : (budget turns : ℕ) (finish : Finish) → IsOverAt quantum machine input budget turns finish → Follows turns (as_turn (at turns)) (end_of turns finish ∷ [])
  follows_end budget turns finish over =
      let here : comes turns end_kind (end_of turns finish ∷ []) ≡ true = comes_here turns end_kind (end_of turns finish) [] refl refl in
      record {
        later = (omega arith, λ same. refl);
        killed = ap (λ (b : Bool). b && is_killing (Some finish)) here ∙ ends_so budget turns finish over;
        excused = λ faulted alive. or_third (comes (turns + 1) before_kind (end_of turns finish ∷ [])) (comes (turns + 1) end_kind (end_of turns finish ∷ [])) _ here;
      }

  pub turns_repeated : (budget done : ℕ) (finish : Finish) (all : List Record) → machine.wait ≡ None → AreSignals machine.kernel.signals
      → AreRecordsOfRun quantum machine input budget done finish all → (turns : ℕ) → turns ≤ done → IsRepeated (at turns) turns (replayed (replay_from machine all) turns)
  turns_repeated budget done finish all awake signals recorded turns within =
      let few = few_signals machine.kernel.signals signals in
      let runs = runs_before budget done finish recorded.over in
      let cut =
      cut_at few all done turns within runs
      (record { given = recorded.turns; rest = end_of done finish ∷ []; whole = recorded.whole; recorded = recorded.so_far; follows = follows_end budget done finish recorded.over }) in
      let stands = repeats quantum machine input turns awake (λ j below. runs j (omega (arith, below, within))) few cut.given cut.rest cut.recorded cut.follows in
      let same : replayed (replay_from machine all) turns ≡ standing stands.processor stands.memory (at turns).sent cut.rest turns =
      ap (λ (l : List Record). replayed (replay_from machine l) turns) cut.whole ∙ stands.same in
      record {
        taken = ap (λ (r : Replay). r.turns) same;
        none = ap (λ (r : Replay). r.difference) same;
        sent = ap (λ (r : Replay). r.sent) same;
      }
