-- What a run has written to its files.
use Rattle.std.proofs.Common.{◌≡◌, ℕ, ◌-◌, ◌<◌, ◌≤◌, List, [], ◌++◌, Option, Some, None, Result, Ok, Err, inl, inr, arith, refl, sym, ◌∙◌, subst, append-nil}
use Rattle.std.specs.Prelude.{⊤, ◌+◌, ◌⊎◌, true, IsOk}
use Rattle.kernel_core.specs.declared.core_error.Stop.{Stop}
use Rattle.kernel_core.specs.declared.event.Event.TheVariants as event
use Rattle.kernel_core.specs.declared.finish.Finish.{Finish}
use Rattle.kernel_core.specs.declared.finish.Finish.TheVariants.{Budget}
use Rattle.kernel_model.specs.State.{Kernel}
use Rattle.o32_machine.specs.Passed.{NativeLog, first_log}
use Rattle.o32_machine.specs.Answered.{turns_of}
use Rattle.o32_machine.specs.Emulator.{Emulated}
use Rattle.o32_machine.specs.declared.turn.Turn as code
use Rattle.o32_machine.specs.declared.turn.Turn.TheVariants.{Went, Ended}
use Rattle.o32_turns.specs.Machine.{Machine}
use Rattle.outside.specs.Streams.{Contents}
use Rattle.trace_text.specs.Trace.{trace_line}
use Rattle.o32_runner.specs.NativeText.{HasCutLog, HasLog, IsCutLog, IsWholeLog, LogsAs}
use Rattle.o32_runner.specs.Runs.{GoesSo, IsOver, RunsTo, WithinBudget}
use Rattle.stored_files.specs.Stored.{IfNamed, Stored}
use Rattle.o32_runner.specs.Texts.{BeginsLog, Differ}
use Rattle.o32_runner.specs.Traced.{IsTrace, TracesAs}
use Rattle.o32_runner.specs.declared.told.Cut.{Cut}
use Rattle.o32_runner.specs.Making.{MakesBoth}
use Rattle.o32_runner.specs.inside.Told.{Adds, AddsBoth, AddsPart, AddsPartOfBoth, Takes, native_of, trace_of}
use Rattle.o32_runner.proofs.Files.{Saves, SavesBoth, adds_first, both_more, saves_made}
use Rattle.o32_runner.proofs.Histories.{SoLogged, begins, cut_log, ended_log, partly_log, stopped_log, went_log, whole_log}
use Rattle.o32_runner.proofs.QuietTurns.{is_over_after, went_after}
use Rattle.o32_runner.proofs.Telling.{SoTraced, before_it, cut_behind, cut_in, cut_run, done_partly, done_run, done_told, ended_told, none_traced, partly_told, untold, went_told, within_budget}

-- Of the first two files

-- the turns that an emulator took were told in them
abbrev pub TakesTurns : ℕ → Result code.Turn Cut → Emulated → Emulated → Contents → Contents → Option (List ℕ) → Option (List ℕ) → Stored → Stored → Type 0
TakesTurns limit (Ok turn) emulated became before after trace native old new =
    Takes limit (Ok turn) emulated became became.turns before after × AddsBoth trace native (trace_of became turn) (native_of became turn) old new
TakesTurns limit (Err cut) emulated became before after trace native old new =
    (Takes limit (Err cut.stop) emulated became cut.turns before after × (new ≡ old))
    ⊎ ((turn : code.Turn) × Takes limit (Ok turn) emulated became became.turns before after
    × AddsPartOfBoth trace native (trace_of became turn) (native_of became turn) old new × (became.turns ≡ cut.turns + turns_of turn))

-- the line that the budget's turns are done was added to the trace, or a part of it
abbrev pub EndsTrace : Option (List ℕ) → ℕ → Result Finish Stop → Stored → Stored → Type 0
EndsTrace trace turns (Ok finish) old new = (finish ≡ Budget) × Adds trace (trace_line turns event.Budget) old new
EndsTrace trace turns (Err stop) old new = AddsPart trace (trace_line turns event.Budget) old new

-- what a run makes of them
pub record WritesBoth (trace native : Option (List ℕ)) (quantum : ℕ) (machine : Machine) (budget turns : ℕ) (end : Result Finish Stop) (told : Option (List ℕ)) (old new : Stored) : Type 0 where
  pub middle : Stored
  pub traces : IfNamed trace (λ name. TracesAs name quantum machine budget turns end told) old middle
  pub logs : IfNamed native (λ name. LogsAs name quantum machine budget turns end told) middle new

-- A fact for a file that is named

abbrev pub OnNamed : Option (List ℕ) → Type 0 → Type 0
OnNamed None P = ⊤
OnNamed (Some name) P = P

pub on_named : (name : Option (List ℕ)) (P Q : Type 0) → (P → Q) → OnNamed name P → OnNamed name Q
on_named None P Q so p = tt
on_named (Some name) P Q so p = so p

-- Both files have texts of these forms. Of the second one it is said only where it is named.
pub record Written (trace native : Option (List ℕ)) (Traces Logs : List ℕ → Type 0) (start now : Stored) : Type 0 where
  pub traced : List ℕ
  pub logged : List ℕ
  pub traces : Traces traced
  pub logs : OnNamed native (Logs logged)
  pub saves : SavesBoth trace native traced logged start now

module _ (trace native : Option (List ℕ)) (differ : Differ trace native) (Traced Logged Traces Logs : List ℕ → Type 0) (start old new : Stored) (was : Written trace native Traced Logged start old) where
  grown : (first second : List ℕ) → (Traced was.traced → Traces (was.traced ++ first)) → (Logged was.logged → Logs (was.logged ++ second)) → AddsBoth trace native first second old new → Written trace native Traces Logs start new
  grown first second traces logs adds = record {
    traced = was.traced ++ first;
    logged = was.logged ++ second;
    traces = traces was.traces;
    logs = on_named native (Logged was.logged) (Logs (was.logged ++ second)) logs was.logs;
    saves = both_more trace native differ was.traced was.logged first second start old new was.saves adds;
  }

  same_files : new ≡ old → (Traced was.traced → Traces was.traced) → (Logged was.logged → Logs was.logged) → Written trace native Traces Logs start new
  same_files is traces logs = record {
    traced = was.traced;
    logged = was.logged;
    traces = traces was.traces;
    logs = on_named native (Logged was.logged) (Logs was.logged) logs was.logs;
    saves = subst (λ (s : Stored). SavesBoth trace native was.traced was.logged start s) (sym is) was.saves;
  }

-- The forms

abbrev pub LogsSoFar : ℕ → Machine → ℕ → Option (List ℕ) → NativeLog → Kernel → List ℕ → Type 0
LogsSoFar quantum machine turns told native kernel text = (left : List ℕ) → told ≡ Some left → SoLogged quantum machine left turns native kernel text

abbrev pub HasText : ℕ → Machine → ℕ → ℕ → Result Finish Stop → Option (List ℕ) → List ℕ → Type 0
HasText quantum machine budget turns (Ok finish) told text = IsWholeLog quantum machine turns finish told text
HasText quantum machine budget turns (Err stop) told text = IsCutLog quantum machine budget turns told text

-- after so many turns
abbrev pub WrittenSo : Option (List ℕ) → Option (List ℕ) → ℕ → Machine → ℕ → Option (List ℕ) → Emulated → Stored → Stored → Type 0
WrittenSo trace native quantum machine turns told emulated start now =
    Written trace native (SoTraced quantum machine turns told) (LogsSoFar quantum machine turns told emulated.native emulated.machine.kernel) start now

-- by the whole run
abbrev pub WrittenAs : Option (List ℕ) → Option (List ℕ) → ℕ → Machine → ℕ → ℕ → Result Finish Stop → Option (List ℕ) → Stored → Stored → Type 0
WrittenAs trace native quantum machine budget turns end told start now =
    Written trace native (IsTrace quantum machine budget turns end told) (HasText quantum machine budget turns end told) start now

logs_begin : (native : Option (List ℕ)) (quantum : ℕ) (told : Option (List ℕ)) (emulated : Emulated) → emulated.turns ≡ 0 → BeginsLog native emulated.native
    → OnNamed native (LogsSoFar quantum emulated.machine emulated.turns told emulated.native emulated.machine.kernel [])
logs_begin None quantum told emulated none first = tt
logs_begin (Some name) quantum told emulated none first = λ left is. begins quantum emulated.machine left emulated.turns emulated.native none first

pub written_first : (trace native : Option (List ℕ)) (quantum : ℕ) (told : Option (List ℕ)) (emulated : Emulated) → emulated.turns ≡ 0 → BeginsLog native emulated.native
    → (start now : Stored) → MakesBoth trace native start now → WrittenSo trace native quantum emulated.machine emulated.turns told emulated start now
written_first trace native quantum told emulated none first start now made = record {
  traced = [];
  logged = [];
  traces = λ left is. none_traced quantum emulated.machine left emulated.turns none;
  logs = logs_begin native quantum told emulated none first;
  saves = saves_made trace native start now made;
}

-- Turns

module _ (trace native : Option (List ℕ)) (differ : Differ trace native) (quantum : ℕ) (machine : Machine) (budget limit : ℕ) (before at after : Contents) (emulated became : Emulated) (same : emulated.quantum ≡ quantum)
    (so : GoesSo quantum machine emulated.turns before at emulated.machine) where
  module _ (old new : Stored) (turn : code.Turn) (takes : TakesTurns limit (Ok turn) emulated became at after trace native old new) where
    abbrev turned : Takes limit (Ok turn) emulated became became.turns at after
    turned = takes.0

    pub goes_on : turn ≡ Went → GoesSo quantum machine became.turns before after became.machine
    goes_on is left told =
        went_after quantum machine left emulated.turns emulated.quantum limit before at after emulated.machine became.machine became.turns became.events same (so left told) turn is turned.turned

    pub written_on : (start : Stored) → WrittenSo trace native quantum machine emulated.turns before.left emulated start old → turn ≡ Went → WrittenSo trace native quantum machine became.turns before.left became start new
    written_on start was is =
        grown trace native differ (SoTraced quantum machine emulated.turns before.left) (LogsSoFar quantum machine emulated.turns before.left emulated.native emulated.machine.kernel)
        (SoTraced quantum machine became.turns before.left) (LogsSoFar quantum machine became.turns before.left became.native became.machine.kernel) start old new was (trace_of became turn) (native_of became turn)
        (λ had left told.
        went_told quantum machine left emulated.turns emulated.quantum limit before at after emulated.machine became.machine became.turns became.events same (so left told) turn is turned.turned was.traced (had left told))
        (λ had left told.
        went_log quantum machine left emulated.turns emulated.quantum limit before at after emulated.machine became.machine became.turns became.events same (so left told) emulated.native was.logged (had left told)
        turn turned.turned became.native turned.logged is (goes_on is left told))
        takes.1

    module _ (finish : Finish) (is : turn ≡ Ended finish) (below : emulated.turns < budget) (room : limit ≤ budget - emulated.turns) where
      pub ends : (left : List ℕ) → before.left ≡ Some left → IsOver quantum machine left budget became.turns finish before after became.machine
      ends left told =
          is_over_after quantum machine left emulated.turns emulated.quantum limit before at after emulated.machine became.machine became.turns became.events same (so left told)
          budget turn finish is below room turned.turned

      pub written_whole : (start : Stored) → WrittenSo trace native quantum machine emulated.turns before.left emulated start old → WrittenAs trace native quantum machine budget became.turns (Ok finish) before.left start new
      written_whole start was =
          grown trace native differ (SoTraced quantum machine emulated.turns before.left) (LogsSoFar quantum machine emulated.turns before.left emulated.native emulated.machine.kernel)
          (IsTrace quantum machine budget became.turns (Ok finish) before.left) (HasText quantum machine budget became.turns (Ok finish) before.left) start old new was (trace_of became turn) (native_of became turn)
          (λ had left told.
          ended_told quantum machine left emulated.turns emulated.quantum limit before at after emulated.machine became.machine became.turns became.events same (so left told) turn finish is turned.turned was.traced (had left told))
          (λ had left told.
          ended_log quantum machine left emulated.turns emulated.quantum limit before at after emulated.machine became.machine became.turns became.events same (so left told) emulated.native was.logged (had left told)
          turn turned.turned became.native turned.logged budget finish is (ends left told))
          takes.1

  module _ (old new : Stored) (cut : Cut) (below : emulated.turns < budget) (room : limit ≤ budget - emulated.turns) where
    pub cuts : TakesTurns limit (Err cut) emulated became at after trace native old new → (left : List ℕ) → before.left ≡ Some left → RunsTo quantum machine left budget cut.turns (Err cut.stop) before after became.machine
    cuts (inl stopped) =
        cut_in quantum machine budget emulated.turns emulated.quantum limit before at after emulated.machine became.machine cut.turns became.events same so below room cut.stop stopped.0.turned
    cuts (inr (turn, turned, adds, counts)) =
        cut_behind quantum machine budget emulated.turns emulated.quantum limit before at after emulated.machine became.machine became.turns became.events same so below room turn turned.turned cut.turns counts

    pub cut_below : TakesTurns limit (Err cut) emulated became at after trace native old new → cut.turns < budget
    cut_below (inl stopped) = omega (arith, below, room, stopped.0.turned.within, stopped.0.turned.counted)
    cut_below (inr (turn, turned, adds, counts)) =
        within_budget quantum machine budget emulated.turns emulated.quantum limit before at after emulated.machine became.machine became.turns became.events same so below room turn turned.turned cut.turns counts

    pub written_partly : (start : Stored) → WrittenSo trace native quantum machine emulated.turns before.left emulated start old → TakesTurns limit (Err cut) emulated became at after trace native old new → WrittenAs trace native quantum machine budget cut.turns (Err cut.stop) before.left start new
    written_partly start was (inl stopped) =
        same_files trace native differ (SoTraced quantum machine emulated.turns before.left) (LogsSoFar quantum machine emulated.turns before.left emulated.native emulated.machine.kernel)
        (IsTrace quantum machine budget cut.turns (Err cut.stop) before.left) (HasText quantum machine budget cut.turns (Err cut.stop) before.left) start old new was stopped.1
        (untold quantum machine budget emulated.turns emulated.quantum limit before at after emulated.machine became.machine cut.turns became.events same so below room cut.stop stopped.0.turned was.traced)
        (λ had left told.
        stopped_log quantum machine left emulated.turns emulated.quantum limit before at after emulated.machine became.machine cut.turns became.events same (so left told) emulated.native was.logged (had left told)
        budget cut.stop stopped.0.turned)
    written_partly start was (inr (turn, turned, adds, counts)) =
        grown trace native differ (SoTraced quantum machine emulated.turns before.left) (LogsSoFar quantum machine emulated.turns before.left emulated.native emulated.machine.kernel)
        (IsTrace quantum machine budget cut.turns (Err cut.stop) before.left) (HasText quantum machine budget cut.turns (Err cut.stop) before.left) start old new was adds.trace_part adds.native_part
        (partly_told quantum machine budget emulated.turns emulated.quantum limit before at after emulated.machine became.machine became.turns became.events same so below room turn turned.turned cut.turns counts
        was.traced adds.trace_part adds.trace_begins)
        (λ had left told.
        partly_log quantum machine left emulated.turns emulated.quantum limit before at after emulated.machine became.machine became.turns became.events same (so left told) emulated.native was.logged (had left told)
        turn turned.turned became.native turned.logged budget cut.turns
        (before_it quantum machine budget emulated.turns emulated.quantum limit before at after emulated.machine became.machine became.turns became.events same so below room turn turned.turned cut.turns counts)
        (within_budget quantum machine budget emulated.turns emulated.quantum limit before at after emulated.machine became.machine became.turns became.events same so below room turn turned.turned cut.turns counts)
        adds.native_part adds.native_begins)
        adds.adds

-- The budget's turns are done.
module _ (trace native : Option (List ℕ)) (differ : Differ trace native) (quantum : ℕ) (machine : Machine) (budget turns result : ℕ) (before at : Contents) (emulated : Emulated)
    (so : GoesSo quantum machine emulated.turns before at emulated.machine) (old new : Stored)
    (full : emulated.turns ≡ budget) (counts : turns ≡ emulated.turns) (same : result ≡ turns) where
  pub done : (end : Result Finish Stop) → EndsTrace trace turns end old new → (left : List ℕ) → before.left ≡ Some left → RunsTo quantum machine left budget result end before at emulated.machine
  done (Ok finish) ends left told =
      subst (λ (f : Finish). IsOver quantum machine left budget result f before at emulated.machine) (sym ends.0)
      (done_run quantum machine budget emulated.turns turns result before at emulated.machine so full counts same left told)
  done (Err stop) ends left told = cut_run quantum machine budget emulated.turns turns result before at emulated.machine so full counts same left told

  all_is : result ≡ emulated.turns
  all_is = same ∙ counts

  module _ (start : Stored) (was : WrittenSo trace native quantum machine emulated.turns before.left emulated start old) where
    whole_then : (left : List ℕ) → SoLogged quantum machine left emulated.turns emulated.native emulated.machine.kernel was.logged → HasLog quantum machine left result Budget (was.logged ++ [])
    whole_then left had =
        subst (λ (n : ℕ). HasLog quantum machine left n Budget (was.logged ++ [])) (sym all_is)
        (subst (λ (t : List ℕ). HasLog quantum machine left emulated.turns Budget t) (sym (append-nil was.logged))
        (whole_log quantum machine left emulated.turns emulated.native emulated.machine.kernel was.logged had))

    partly_then : (left : List ℕ) → SoLogged quantum machine left emulated.turns emulated.native emulated.machine.kernel was.logged → HasCutLog quantum machine left budget result (was.logged ++ [])
    partly_then left had =
        subst (λ (n : ℕ). HasCutLog quantum machine left budget n (was.logged ++ [])) (sym all_is)
        (subst (λ (t : List ℕ). HasCutLog quantum machine left budget emulated.turns t) (sym (append-nil was.logged))
        (cut_log quantum machine left emulated.turns emulated.native emulated.machine.kernel was.logged had budget))

    pub written_done : (end : Result Finish Stop) → EndsTrace trace turns end old new → WrittenAs trace native quantum machine budget result end before.left start new
    written_done (Ok finish) ends =
        subst (λ (f : Finish). WrittenAs trace native quantum machine budget result (Ok f) before.left start new) (sym ends.0)
        (grown trace native differ (SoTraced quantum machine emulated.turns before.left) (LogsSoFar quantum machine emulated.turns before.left emulated.native emulated.machine.kernel)
        (IsTrace quantum machine budget result (Ok Budget) before.left) (HasText quantum machine budget result (Ok Budget) before.left) start old new was (trace_line turns event.Budget) []
        (done_told quantum machine budget emulated.turns turns result before at emulated.machine so full counts same was.traced)
        (λ had left told. whole_then left (had left told))
        (adds_first trace native (trace_line turns event.Budget) old new ends.1))
    written_done (Err stop) ends =
        grown trace native differ (SoTraced quantum machine emulated.turns before.left) (LogsSoFar quantum machine emulated.turns before.left emulated.native emulated.machine.kernel)
        (IsTrace quantum machine budget result (Err stop) before.left) (HasText quantum machine budget result (Err stop) before.left) start old new was ends.0 []
        (done_partly quantum machine budget emulated.turns turns result before at emulated.machine so full counts same was.traced ends.0 ends.1)
        (λ had left told. partly_then left (had left told))
        (adds_first trace native ends.0 old new ends.2)

-- a run without a trace does not stop there
pub early_end : (end : Result Finish Stop) (turns budget : ℕ) → IsOk end → turns ≤ budget → WithinBudget end turns budget
early_end (Ok finish) turns budget over within = within
early_end (Err stop) turns budget over within = absurd cc

-- What a run has written is what it makes of its files.

traces_so : (name : Option (List ℕ)) (quantum : ℕ) (machine : Machine) (budget turns : ℕ) (end : Result Finish Stop) (told : Option (List ℕ)) (text : List ℕ) (old new : Stored) → IsTrace quantum machine budget turns end told text → Saves name text old new
    → IfNamed name (λ there. TracesAs there quantum machine budget turns end told) old new
traces_so None quantum machine budget turns end told text old new has saves = saves
traces_so (Some name) quantum machine budget turns (Ok finish) told text old new has saves = (text, has, saves)
traces_so (Some name) quantum machine budget turns (Err stop) told text old new has saves = (text, has, saves)

logs_so : (name : Option (List ℕ)) (quantum : ℕ) (machine : Machine) (budget turns : ℕ) (end : Result Finish Stop) (told : Option (List ℕ)) (text : List ℕ) (old new : Stored) → OnNamed name (HasText quantum machine budget turns end told text)
    → Saves name text old new → IfNamed name (λ there. LogsAs there quantum machine budget turns end told) old new
logs_so None quantum machine budget turns end told text old new has saves = saves
logs_so (Some name) quantum machine budget turns (Ok finish) told text old new has saves = (text, has, saves)
logs_so (Some name) quantum machine budget turns (Err stop) told text old new has saves = (text, has, saves)

pub writes_so : (trace native : Option (List ℕ)) (quantum : ℕ) (machine : Machine) (budget turns : ℕ) (end : Result Finish Stop) (told : Option (List ℕ)) (start now : Stored) → WrittenAs trace native quantum machine budget turns end told start now
    → WritesBoth trace native quantum machine budget turns end told start now
writes_so trace native quantum machine budget turns end told start now wrote = record {
  middle = wrote.saves.middle;
  traces = traces_so trace quantum machine budget turns end told wrote.traced start wrote.saves.middle wrote.traces wrote.saves.first;
  logs = logs_so native quantum machine budget turns end told wrote.logged wrote.saves.middle now wrote.logs wrote.saves.second;
}
