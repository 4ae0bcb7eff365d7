-- What a run has written to its three files.
use Rattle.std.proofs.Common.{◌≡◌, ℕ, ◌-◌, ◌<◌, ◌≤◌, List, [], ◌++◌, Option, Some, None, Result, Ok, Err, inl, inr, arith, refl, sym, ◌∙◌, subst}
use Rattle.std.specs.Prelude.{◌⊎◌}
use Rattle.kernel_core.specs.declared.core_error.Stop.{Stop}
use Rattle.kernel_core.specs.declared.core_error.Stop.TheVariants as stops
use Rattle.kernel_core.specs.declared.event.Event.TheVariants as event
use Rattle.kernel_core.specs.declared.finish.Finish.{Finish}
use Rattle.kernel_core.specs.declared.finish.Finish.TheVariants.{Budget}
use Rattle.o32_machine.specs.Emulator.{Emulated}
use Rattle.o32_machine.specs.declared.turn.Turn as code
use Rattle.o32_machine.specs.declared.turn.Turn.TheVariants.{Went, Ended}
use Rattle.o32_turns.specs.Machine.{Machine}
use Rattle.outside.specs.Causes.{FailsOnlyIfRose}
use Rattle.outside.specs.Count.{Rose}
use Rattle.outside.specs.Streams.{Contents}
use Rattle.outside.specs.declared.errors.DevError.{DevError}
use Rattle.outside.specs.declared.errors.DevError.TheVariants as device
use Rattle.trace_text.specs.Trace.{trace_line}
use Rattle.turn_records.specs.Keeping.{Records}
use Rattle.outside.specs.Output.{IsPrefix}
use Rattle.o32_runner.specs.JournalText.{HasCutJournal, HasJournal, IsCutJournal, IsWholeJournal, KeepsAs, front_to_come}
use Rattle.o32_runner.specs.Making.{IsByStore, IsUnbegun, MakesAll, MakesNotAll, StopsBehind}
use Rattle.o32_runner.specs.Runs.{GoesSo, IsOver, RunsTo, WithinBudget}
use Rattle.stored_files.specs.Stored.{IfNamed, Stored}
use Rattle.o32_runner.specs.Texts.{AllDiffer, BeginsJournal, BeginsLog, WritesEach, WritesTexts}
use Rattle.o32_runner.specs.declared.told.Cut.{Cut}
use Rattle.o32_runner.specs.inside.Told.{EndsBudget, TakesAll, WritesOnlyIfRose, budget_record, journal_of, native_of, stop_of, trace_of}
use Rattle.o32_runner.proofs.Files.{Saves, both_past, past, third_more}
use Rattle.o32_runner.proofs.RecordLists.{SoKept, begins_kept, cut_kept, ended_kept, partly_kept, stopped_kept, went_kept, whole_kept}
use Rattle.o32_runner.proofs.Telling.{before_it, done_run, within_budget}
use Rattle.o32_runner.proofs.Writing.{EndsTrace, OnNamed, TakesTurns, WrittenAs, WrittenSo, cut_below, cuts, done, ends, goes_on, on_named, writes_so, written_done, written_first, written_on, written_partly, written_whole}

-- The forms

abbrev pub KeepsSoFar : List ℕ → ℕ → Machine → ℕ → Option (List ℕ) → Records → List ℕ → Type 0
KeepsSoFar front quantum machine turns told kept text = (left : List ℕ) → told ≡ Some left → SoKept front quantum machine left turns kept text

abbrev pub HasKept : List ℕ → ℕ → Machine → ℕ → ℕ → Result Finish Stop → Option (List ℕ) → List ℕ → Type 0
HasKept front quantum machine budget turns (Ok finish) told text = IsWholeJournal front quantum machine budget turns finish told text
HasKept front quantum machine budget turns (Err stop) told text = IsCutJournal front quantum machine budget turns told text

-- The first two files have what is said of them, and the third one a text of this form behind them, where it is named.
pub record Beside (Lines : Stored → Stored → Type 0) (journal : Option (List ℕ)) (Keeps : List ℕ → Type 0) (start now : Stored) : Type 0 where
  pub middle : Stored
  pub lines : Lines start middle
  pub text : List ℕ
  pub keeps : OnNamed journal (Keeps text)
  pub saves : Saves journal text middle now

-- after so many turns
abbrev pub AllSo : Option (List ℕ) → Option (List ℕ) → Option (List ℕ) → List ℕ → ℕ → Machine → ℕ → Option (List ℕ) → Emulated → Stored → Stored → Type 0
AllSo trace native journal front quantum machine turns told emulated start now =
    Beside (WrittenSo trace native quantum machine turns told emulated) journal (KeepsSoFar front quantum machine turns told emulated.records) start now

-- by the whole run
abbrev pub AllAs : Option (List ℕ) → Option (List ℕ) → Option (List ℕ) → List ℕ → ℕ → Machine → ℕ → ℕ → Result Finish Stop → Option (List ℕ) → Stored → Stored → Type 0
AllAs trace native journal front quantum machine budget turns end told start now =
    Beside (WrittenAs trace native quantum machine budget turns end told) journal (HasKept front quantum machine budget turns end told) start now

keeps_begin : (journal : Option (List ℕ)) (front : List ℕ) (quantum : ℕ) (told : Option (List ℕ)) (emulated : Emulated) → emulated.turns ≡ 0 → BeginsJournal journal emulated.records
    → OnNamed journal (KeepsSoFar front quantum emulated.machine emulated.turns told emulated.records [])
keeps_begin None front quantum told emulated none first = tt
keeps_begin (Some name) front quantum told emulated none first = λ left is. begins_kept front quantum emulated.machine left emulated.turns emulated.records none first

pub all_first : (trace native journal : Option (List ℕ)) (front : List ℕ) (quantum : ℕ) (told : Option (List ℕ)) (emulated : Emulated) → emulated.turns ≡ 0 → BeginsLog native emulated.native → BeginsJournal journal emulated.records
    → (start now : Stored) → MakesAll trace native journal start now → AllSo trace native journal front quantum emulated.machine emulated.turns told emulated start now
all_first trace native journal front quantum told emulated none log kept start now made = record {
  middle = made.middle;
  lines = written_first trace native quantum told emulated none log start made.middle made.both;
  text = [];
  keeps = keeps_begin journal front quantum told emulated none kept;
  saves = made.third;
}

-- Turns

module _ (trace native journal : Option (List ℕ)) (differ : AllDiffer trace native journal) (front : List ℕ) (quantum : ℕ) (machine : Machine) (budget limit : ℕ) (before at after : Contents) (emulated became : Emulated) (same : emulated.quantum ≡ quantum)
    (so : GoesSo quantum machine emulated.turns before at emulated.machine) (coming : List ℕ) (is_coming : coming ≡ front_to_come emulated.turns front) (once : (coming ≡ []) ⊎ (limit ≡ 1)) where
  once_there : (front_to_come emulated.turns front ≡ []) ⊎ (limit ≡ 1)
  once_there = subst (λ (t : List ℕ). (t ≡ []) ⊎ (limit ≡ 1)) is_coming once

  module _ (old new : Stored) (turn : code.Turn) (takes : TakesAll coming limit (Ok turn) emulated became at after trace native journal old new) where
    pub all_go_on : turn ≡ Went → GoesSo quantum machine became.turns before after became.machine
    all_go_on is = goes_on trace native differ.first quantum machine budget limit before at after emulated became same so old takes.1.middle turn (takes.0, takes.1.lines) is

    module _ (start : Stored) (was : AllSo trace native journal front quantum machine emulated.turns before.left emulated start old) where
      abbrev moved : (there : Stored) × TakesTurns limit (Ok turn) emulated became at after trace native was.middle there × Saves journal was.text there takes.1.middle
      moved =
          let all = both_past trace native journal differ.second differ.third (trace_of became turn) (native_of became turn) was.text was.middle old takes.1.middle was.saves takes.1.lines in
          (all.0, (takes.0, all.1), all.2)

      more : (Keeps : List ℕ → Type 0) → (KeepsSoFar front quantum machine emulated.turns before.left emulated.records was.text → Keeps (was.text ++ journal_of (front_to_come emulated.turns front) became turn))
          → OnNamed journal (Keeps (was.text ++ journal_of coming became turn))
      more Keeps keeps =
          subst (λ (t : List ℕ). OnNamed journal (Keeps (was.text ++ journal_of t became turn))) (sym is_coming)
          (on_named journal (KeepsSoFar front quantum machine emulated.turns before.left emulated.records was.text) (Keeps (was.text ++ journal_of (front_to_come emulated.turns front) became turn)) keeps was.keeps)

      saved : Saves journal (was.text ++ journal_of coming became turn) moved.0 new
      saved = third_more journal was.text (journal_of coming became turn) moved.0 takes.1.middle new moved.2 takes.1.records

      pub all_on : turn ≡ Went → AllSo trace native journal front quantum machine became.turns before.left became start new
      all_on is = record {
        middle = moved.0;
        lines = written_on trace native differ.first quantum machine budget limit before at after emulated became same so was.middle moved.0 turn moved.1 start was.lines is;
        text = was.text ++ journal_of coming became turn;
        keeps = more (KeepsSoFar front quantum machine became.turns before.left became.records)
            (λ had left told.
            went_kept front quantum machine left emulated.turns emulated.quantum limit before at after emulated.machine became.machine became.turns became.events same (so left told) emulated.records was.text (had left told)
            turn takes.0.turned once_there became.records takes.0.recorded is);
        saves = saved;
      }

      module _ (finish : Finish) (is : turn ≡ Ended finish) (below : emulated.turns < budget) (room : limit ≤ budget - emulated.turns) where
        pub all_whole : AllAs trace native journal front quantum machine budget became.turns (Ok finish) before.left start new
        all_whole = record {
          middle = moved.0;
          lines = written_whole trace native differ.first quantum machine budget limit before at after emulated became same so was.middle moved.0 turn moved.1 finish is below room start was.lines;
          text = was.text ++ journal_of coming became turn;
          keeps = more (HasKept front quantum machine budget became.turns (Ok finish) before.left)
              (λ had left told.
              ended_kept front quantum machine left emulated.turns emulated.quantum limit before at after emulated.machine became.machine became.turns became.events same (so left told) emulated.records was.text (had left told)
              turn takes.0.turned once_there became.records takes.0.recorded budget finish is
              (ends trace native differ.first quantum machine budget limit before at after emulated became same so was.middle moved.0 turn moved.1 finish is below room left told));
          saves = saved;
        }

    pub all_end : (finish : Finish) → turn ≡ Ended finish → emulated.turns < budget → limit ≤ budget - emulated.turns → (left : List ℕ) → before.left ≡ Some left → IsOver quantum machine left budget became.turns finish before after became.machine
    all_end finish is below room left told =
        ends trace native differ.first quantum machine budget limit before at after emulated became same so old takes.1.middle turn (takes.0, takes.1.lines) finish is below room left told

  module _ (old new : Stored) (cut : Cut) (below : emulated.turns < budget) (room : limit ≤ budget - emulated.turns) where
    in_lines : TakesAll coming limit (Err cut) emulated became at after trace native journal old new → (there : Stored) × TakesTurns limit (Err cut) emulated became at after trace native old there
    in_lines (inl stopped) = (new, inl stopped)
    in_lines (inr (turn, turned, parts, counts)) = (parts.middle, inr (turn, turned, parts.lines, counts))

    pub all_cut : TakesAll coming limit (Err cut) emulated became at after trace native journal old new → (left : List ℕ) → before.left ≡ Some left → RunsTo quantum machine left budget cut.turns (Err cut.stop) before after became.machine
    all_cut takes =
        let lines = in_lines takes in
        cuts trace native differ.first quantum machine budget limit before at after emulated became same so old lines.0 cut below room lines.1

    pub all_below : TakesAll coming limit (Err cut) emulated became at after trace native journal old new → cut.turns < budget
    all_below takes =
        let lines = in_lines takes in
        cut_below trace native differ.first quantum machine budget limit before at after emulated became same so old lines.0 cut below room lines.1

    pub all_partly : (start : Stored) → AllSo trace native journal front quantum machine emulated.turns before.left emulated start old → TakesAll coming limit (Err cut) emulated became at after trace native journal old new
        → AllAs trace native journal front quantum machine budget cut.turns (Err cut.stop) before.left start new
    all_partly start was (inl stopped) = record {
      middle = was.middle;
      lines = written_partly trace native differ.first quantum machine budget limit before at after emulated became same so was.middle was.middle cut below room start was.lines (inl (stopped.0, refl));
      text = was.text;
      keeps =
          on_named journal (KeepsSoFar front quantum machine emulated.turns before.left emulated.records was.text) (HasKept front quantum machine budget cut.turns (Err cut.stop) before.left was.text)
          (λ had left told.
          stopped_kept front quantum machine left emulated.turns emulated.quantum limit before at after emulated.machine became.machine cut.turns became.events same (so left told) emulated.records was.text (had left told)
          budget cut.stop stopped.0.turned once_there)
          was.keeps;
      saves = subst (λ (s : Stored). Saves journal was.text was.middle s) (sym stopped.1) was.saves;
    }
    all_partly start was (inr (turn, turned, parts, counts)) =
        let all = both_past trace native journal differ.second differ.third parts.lines.trace_part parts.lines.native_part was.text was.middle old parts.middle was.saves parts.lines.adds in
        record {
          middle = all.0;
          lines =
              written_partly trace native differ.first quantum machine budget limit before at after emulated became same so was.middle all.0 cut below room start was.lines
              (inr (
                turn,
                turned,
                record {
                  trace_part = parts.lines.trace_part;
                  native_part = parts.lines.native_part;
                  trace_begins = parts.lines.trace_begins;
                  native_begins = parts.lines.native_begins;
                  adds = all.1;
                },
                counts,
              ));
          text = was.text ++ parts.records.0;
          keeps =
              on_named journal (KeepsSoFar front quantum machine emulated.turns before.left emulated.records was.text) (HasKept front quantum machine budget cut.turns (Err cut.stop) before.left (was.text ++ parts.records.0))
              (λ had left told.
              partly_kept front quantum machine left emulated.turns emulated.quantum limit before at after emulated.machine became.machine became.turns became.events same (so left told) emulated.records was.text (had left told)
              turn turned.turned once_there became.records turned.recorded budget cut.turns
              (before_it quantum machine budget emulated.turns emulated.quantum limit before at after emulated.machine became.machine became.turns became.events same so below room turn turned.turned cut.turns counts)
              (within_budget quantum machine budget emulated.turns emulated.quantum limit before at after emulated.machine became.machine became.turns became.events same so below room turn turned.turned cut.turns counts)
              parts.records.0
              (subst (λ (t : List ℕ). IsPrefix parts.records.0 (journal_of t became turn)) is_coming parts.records.1))
              was.keeps;
          saves = third_more journal was.text parts.records.0 all.0 parts.middle new all.2 parts.records.2;
        }

-- The budget's turns are done.
module _ (trace native journal : Option (List ℕ)) (differ : AllDiffer trace native journal) (front : List ℕ) (quantum : ℕ) (machine : Machine) (budget turns result : ℕ) (before at : Contents) (emulated : Emulated)
    (so : GoesSo quantum machine emulated.turns before at emulated.machine) (coming : List ℕ) (is_coming : coming ≡ front_to_come emulated.turns front) (old new : Stored)
    (full : emulated.turns ≡ budget) (counts : turns ≡ emulated.turns) (same : result ≡ turns) where
  in_trace : (end : Result Finish Stop) → EndsBudget trace journal coming turns end old new → (there : Stored) × EndsTrace trace turns end old there
  in_trace (Ok finish) ends = (ends.1.middle, (ends.0, ends.1.first))
  in_trace (Err stop) ends = (ends.adds.middle, (ends.trace_part, ends.trace_begins, ends.adds.first))

  pub all_done : (end : Result Finish Stop) → EndsBudget trace journal coming turns end old new → (left : List ℕ) → before.left ≡ Some left → RunsTo quantum machine left budget result end before at emulated.machine
  all_done end ends =
      let line = in_trace end ends in
      done trace native differ.first quantum machine budget turns result before at emulated so old line.0 full counts same end line.1

  module _ (start : Stored) (was : AllSo trace native journal front quantum machine emulated.turns before.left emulated start old) where
    whole_then : (left : List ℕ) → before.left ≡ Some left → SoKept front quantum machine left emulated.turns emulated.records was.text → HasJournal front quantum machine left budget result Budget (was.text ++ budget_record coming turns)
    whole_then left told had =
        subst (λ (n : ℕ). HasJournal front quantum machine left budget n Budget (was.text ++ budget_record coming turns)) (sym (same ∙ counts))
        (subst (λ (n : ℕ). HasJournal front quantum machine left budget emulated.turns Budget (was.text ++ budget_record coming n)) (sym counts)
        (subst (λ (t : List ℕ). HasJournal front quantum machine left budget emulated.turns Budget (was.text ++ budget_record t emulated.turns)) (sym is_coming)
        (whole_kept front quantum machine left emulated.turns emulated.records was.text had budget before at emulated.machine
        (done_run quantum machine budget emulated.turns emulated.turns emulated.turns before at emulated.machine so full refl refl left told))))

    partly_then : (part : List ℕ) → IsPrefix part (budget_record coming turns) → (left : List ℕ) → SoKept front quantum machine left emulated.turns emulated.records was.text → HasCutJournal front quantum machine left budget result (was.text ++ part)
    partly_then part begins left had =
        subst (λ (n : ℕ). HasCutJournal front quantum machine left budget n (was.text ++ part)) (sym (same ∙ counts))
        (cut_kept front quantum machine left emulated.turns emulated.records was.text had budget full part
        (subst (λ (n : ℕ). IsPrefix part (budget_record (front_to_come emulated.turns front) n)) counts
        (subst (λ (t : List ℕ). IsPrefix part (budget_record t turns)) is_coming begins)))

    pub all_ended : (end : Result Finish Stop) → EndsBudget trace journal coming turns end old new → AllAs trace native journal front quantum machine budget result end before.left start new
    all_ended (Ok finish) ends =
        let moved = past trace journal differ.second (trace_line turns event.Budget) was.text was.middle old ends.1.middle was.saves ends.1.first in
        subst (λ (f : Finish). AllAs trace native journal front quantum machine budget result (Ok f) before.left start new) (sym ends.0)
        (record {
          middle = moved.0;
          lines = written_done trace native differ.first quantum machine budget turns result before at emulated so was.middle moved.0 full counts same start was.lines (Ok Budget) (refl, moved.1);
          text = was.text ++ budget_record coming turns;
          keeps =
              on_named journal (KeepsSoFar front quantum machine emulated.turns before.left emulated.records was.text) (HasKept front quantum machine budget result (Ok Budget) before.left (was.text ++ budget_record coming turns))
              (λ had left told. whole_then left told (had left told)) was.keeps;
          saves = third_more journal was.text (budget_record coming turns) moved.0 ends.1.middle new moved.2 ends.1.second;
        })
    all_ended (Err stop) ends =
        let moved = past trace journal differ.second ends.trace_part was.text was.middle old ends.adds.middle was.saves ends.adds.first in
        record {
          middle = moved.0;
          lines = written_done trace native differ.first quantum machine budget turns result before at emulated so was.middle moved.0 full counts same start was.lines (Err stop) (ends.trace_part, ends.trace_begins, moved.1);
          text = was.text ++ ends.native_part;
          keeps =
              on_named journal (KeepsSoFar front quantum machine emulated.turns before.left emulated.records was.text) (HasKept front quantum machine budget result (Err stop) before.left (was.text ++ ends.native_part))
              (λ had left told. partly_then ends.native_part ends.native_begins left (had left told)) was.keeps;
          saves = third_more journal was.text ends.native_part moved.0 ends.adds.middle new moved.2 ends.adds.second;
        }

-- What a run has written is what it makes of its files.

keeps_so : (name : Option (List ℕ)) (front : List ℕ) (quantum : ℕ) (machine : Machine) (budget turns : ℕ) (end : Result Finish Stop) (told : Option (List ℕ)) (text : List ℕ) (old new : Stored) → OnNamed name (HasKept front quantum machine budget turns end told text)
    → Saves name text old new → IfNamed name (λ there. KeepsAs there front quantum machine budget turns end told) old new
keeps_so None front quantum machine budget turns end told text old new has saves = saves
keeps_so (Some name) front quantum machine budget turns (Ok finish) told text old new has saves = (text, has, saves)
keeps_so (Some name) front quantum machine budget turns (Err stop) told text old new has saves = (text, has, saves)

each_written : (trace native journal : Option (List ℕ)) (front : List ℕ) (quantum : ℕ) (machine : Machine) (budget turns : ℕ) (end : Result Finish Stop) (told : Option (List ℕ)) (start now : Stored)
    → AllAs trace native journal front quantum machine budget turns end told start now → WritesEach trace native journal front quantum machine budget turns end told start now
each_written trace native journal front quantum machine budget turns end told start now wrote =
    let both = writes_so trace native quantum machine budget turns end told start wrote.middle wrote.lines in
    record {
      traced = both.middle;
      logged = wrote.middle;
      traces = both.traces;
      logs = both.logs;
      keeps = keeps_so journal front quantum machine budget turns end told wrote.text wrote.middle now wrote.keeps wrote.saves;
    }

pub all_written : (trace native journal : Option (List ℕ)) (front : List ℕ) (quantum : ℕ) (machine : Machine) (budget turns : ℕ) (end : Result Finish Stop) (before after : Contents) (start now : Stored)
    → AllAs trace native journal front quantum machine budget turns end before.left start now → WritesTexts trace native journal front quantum machine budget turns end before after start now
all_written trace native journal front quantum machine budget turns (Ok finish) before after start now wrote =
    each_written trace native journal front quantum machine budget turns (Ok finish) before.left start now wrote
all_written trace native journal front quantum machine budget turns (Err stop) before after start now wrote =
    inl (each_written trace native journal front quantum machine budget turns (Err stop) before.left start now wrote)

-- A file could not be made.

pub by_store : (error : DevError) (before now : ℕ) → FailsOnlyIfRose {T = Unit {0}} (Err error) before now → IsByStore (stop_of error) before now
by_store device.Failed before now cause = cause
by_store device.NoMemory before now cause = cause

pub all_unmade : (trace native journal : Option (List ℕ)) (error : DevError) (stop : Stop) (contents : Contents) (old new : Stored) → stop ≡ stop_of error → MakesNotAll trace native journal old new
    → FailsOnlyIfRose {T = Unit {0}} (Err error) old.write_faults new.write_faults → IsUnbegun trace native journal 0 stop contents contents old new
all_unmade trace native journal error stop contents old new is none cause = record {
  none = refl;
  untouched = refl;
  unmade = none;
  cause = subst (λ (s : Stop). IsByStore s old.write_faults new.write_faults) (sym is) (by_store error old.write_faults new.write_faults cause);
}

-- Behind the budget's turns

pub behind_end : (end : Result Finish Stop) (turns budget before middle now : ℕ) → middle ≡ before → WritesOnlyIfRose end middle now → StopsBehind end turns budget before now
behind_end (Ok finish) turns budget before middle now same cause = tt
behind_end (Err stops.NoMemory) turns budget before middle now same cause = λ done. cause ∙ same
behind_end (Err stops.WriteFault) turns budget before middle now same cause = λ done. subst (λ (n : ℕ). Rose n now) same cause
behind_end (Err stops.ReadFault) turns budget before middle now same cause = absurd cause

pub behind_made : (end : Result Finish Stop) (turns budget before middle now : ℕ) → middle ≡ before → StopsBehind end turns budget middle now → StopsBehind end turns budget before now
behind_made (Ok finish) turns budget before middle now same behind = tt
behind_made (Err stop) turns budget before middle now same behind = λ done. subst (λ (n : ℕ). IsByStore stop n now) same (behind done)

pub behind_none : (end : Result Finish Stop) (turns budget before now : ℕ) → WithinBudget end turns budget → StopsBehind end turns budget before now
behind_none (Ok finish) turns budget before now within = tt
behind_none (Err stop) turns budget before now within = λ done. absurd (omega (arith, within, done))
