use Rattle.std.proofs.Common.{◌≡◌, ◌+◌, ◌-◌, ◌<◌, ◌≤◌, ℕ, List, Ok, Err, Result, ap, arith, refl, subst, sym, ◌∙◌}
use Rattle.std.specs.Option.{option_copied}
use Rattle.outside.specs.Streams.{contents}
use Rattle.outside.proofs.StreamLemmas.{NoCountRose-refl, NoCountRose-trans}
use Rattle.o32_machine.specs.Answered.{is_end, turns_of}
use Rattle.o32_machine.specs.declared.turn.Turn as code
use Rattle.o32_runner.specs.JournalText.{front_to_come}
use Rattle.kernel_core.specs.declared.core_error.Stop.{Stop}
use Rattle.kernel_core.specs.declared.finish.Finish.{Finish}
use Rattle.kernel_core.specs.declared.finish.Finish.TheVariants.{Budget}
use Rattle.o32_runner.specs.Runs.{IsOver, IsSoFar, no_turn_follows}
use Rattle.stored_files.specs.Stored.{stored_of}
use Rattle.o32_runner.specs.inside.Told.{EndsBudget, IsMade}
use Rattle.o32_runner.proofs.Journals.{AllAs, all_below, all_cut, all_done, all_end, all_ended, all_first, all_go_on, all_on, all_partly, all_whole, all_written, behind_end}
use Rattle.o32_runner.proofs.KeptTexts.{keeps_behind, keeps_first, keeps_however, over_behind, over_however}
use Rattle.o32_runner.proofs.RunLemmas.{at_start}
use Rattle.o32_runner.proofs.Writing.{early_end}
use Rattle.o32_runner.proofs.told.run_made.Goals as goal

coming_is : (coming front : List ℕ) (counted turns : ℕ) → coming ≡ front_to_come counted front → counted ≡ turns → coming ≡ front_to_come turns front
coming_is coming front counted turns is same = is ∙ ap (λ (n : ℕ). front_to_come n front) same

pub loop-emulator-init : goal.loop-emulator-init
loop-emulator-init g c = record {
  most = omega (arith, c.requires.fresh.none);
  on = c.requires.fresh.on;
  long = refl;
  so = λ left told.
      let at = (contents g.I.Source.left g.O.Sink.written g.E.Sink.written c.args.dev.now) in
      let e = c.args.emulator.now in
      subst (λ (n : ℕ). IsSoFar e.quantum e.machine left n at at e.machine) (sym c.requires.fresh.none) (at_start e.quantum e.machine left at told);
  keeps = λ left told. keeps_first c.args.emulator.now;
  texts = λ start made.
      all_first (option_copied c.args.texts.names.trace) (option_copied c.args.texts.names.native) (option_copied c.args.texts.names.journal) c.args.texts.front.now c.args.emulator.now.quantum (g.I.Source.left c.args.dev.now.input) c.args.emulator.now c.requires.fresh.none c.requires.log c.requires.records start
      (stored_of g.F.Store.files g.F.Store.created g.F.Store.loads g.F.Store.turned_away g.F.Store.write_faults c.args.files.now) made;
  trace = c.requires.trace;
  native = c.requires.native;
  journal = c.requires.journal;
  later = record { input_later = omega arith; out_later = omega arith; err_later = omega arith };
  stays = NoCountRose-refl g.I.Source.faults g.O.Sink.faults g.E.Sink.faults c.args.dev.now;
  writes = refl;
  loads = refl;
}

pub loop-emulator-preserved : goal.loop-emulator-preserved
loop-emulator-preserved g c =
    let i = c.loop-emulator.invariant in
    let is_coming : c.front_to_come-coming.result.now ≡ front_to_come c.loop-emulator.emulator.turns c.args.texts.front.now =
    coming_is c.front_to_come-coming.result.now c.args.texts.front.now c.turns-turns.result c.loop-emulator.emulator.turns c.front_to_come-coming.ensures c.turns-turns.ensures in
    let takes = c.in-Ok-Went.ensures.turns in
    let turned = takes.0.turned in
    let counts : c.take_turns.new.emulator.turns ≡ c.loop-emulator.emulator.turns + turned.quiet + 1 =
    turned.counted ∙ ap (λ (t : code.Turn). c.loop-emulator.emulator.turns + turned.quiet + turns_of t) c.in-Ok-Went.field-0-is in
    record {
      most = omega (arith, turned.within, counts, c.limit_of-limit.ensures.few, c.turns-turns.ensures);
      on = c.in-Ok-Went.ensures.over ∙ ap is_end c.in-Ok-Went.field-0-is;
      long = c.take_turns.ensures.quantum ∙ i.long;
      so = all_go_on (option_copied c.args.texts.names.trace) (option_copied c.args.texts.names.native) (option_copied c.args.texts.names.journal) c.requires.differ c.args.texts.front.now c.args.emulator.now.quantum c.args.emulator.now.machine c.args.budget c.limit_of-limit.result (contents g.I.Source.left g.O.Sink.written g.E.Sink.written c.args.dev.now) (contents g.I.Source.left g.O.Sink.written g.E.Sink.written c.loop-emulator.dev) (contents g.I.Source.left g.O.Sink.written g.E.Sink.written c.take_turns.new.dev) c.loop-emulator.emulator c.take_turns.new.emulator i.long i.so c.front_to_come-coming.result.now is_coming c.limit_of-limit.ensures.first
          (stored_of g.F.Store.files g.F.Store.created g.F.Store.loads g.F.Store.turned_away g.F.Store.write_faults c.loop-emulator.files) (stored_of g.F.Store.files g.F.Store.created g.F.Store.loads g.F.Store.turned_away g.F.Store.write_faults c.take_turns.new.files) c.in-Ok-Went.field-0 takes c.in-Ok-Went.field-0-is;
      texts = λ start made.
          all_on (option_copied c.args.texts.names.trace) (option_copied c.args.texts.names.native) (option_copied c.args.texts.names.journal) c.requires.differ c.args.texts.front.now c.args.emulator.now.quantum c.args.emulator.now.machine c.args.budget c.limit_of-limit.result (contents g.I.Source.left g.O.Sink.written g.E.Sink.written c.args.dev.now) (contents g.I.Source.left g.O.Sink.written g.E.Sink.written c.loop-emulator.dev) (contents g.I.Source.left g.O.Sink.written g.E.Sink.written c.take_turns.new.dev) c.loop-emulator.emulator c.take_turns.new.emulator i.long i.so c.front_to_come-coming.result.now is_coming c.limit_of-limit.ensures.first
          (stored_of g.F.Store.files g.F.Store.created g.F.Store.loads g.F.Store.turned_away g.F.Store.write_faults c.loop-emulator.files) (stored_of g.F.Store.files g.F.Store.created g.F.Store.loads g.F.Store.turned_away g.F.Store.write_faults c.take_turns.new.files) c.in-Ok-Went.field-0 takes start (i.texts start made) c.in-Ok-Went.field-0-is;
      keeps = λ left told.
          keeps_behind c.args.emulator.now c.loop-emulator.emulator c.take_turns.new.emulator c.in-Ok-Went.field-0 _ (contents g.I.Source.left g.O.Sink.written g.E.Sink.written c.loop-emulator.dev) (i.so left told).rest (i.keeps left told) takes.0.logged takes.0.recorded;
      trace = subst (λ (names : List (List ℕ)). IsMade names (option_copied c.args.texts.names.trace)) (sym c.take_turns.ensures.created) i.trace;
      native = subst (λ (names : List (List ℕ)). IsMade names (option_copied c.args.texts.names.native)) (sym c.take_turns.ensures.created) i.native;
      journal = subst (λ (names : List (List ℕ)). IsMade names (option_copied c.args.texts.names.journal)) (sym c.take_turns.ensures.created) i.journal;
      later = record {
        input_later = omega (arith, i.later.input_later, c.take_turns.ensures.counts.input_later);
        out_later = omega (arith, i.later.out_later, c.take_turns.ensures.counts.out_later);
        err_later = omega (arith, i.later.err_later, c.take_turns.ensures.counts.err_later);
      };
      stays = NoCountRose-trans i.stays c.in-Ok-Went.ensures.cause.0;
      writes = c.in-Ok-Went.ensures.cause.1 ∙ i.writes;
      loads = c.take_turns.ensures.loads ∙ i.loads;
    }

pub loop-emulator-smaller : goal.loop-emulator-smaller
loop-emulator-smaller g c =
    let turned = c.in-Ok-Went.ensures.turns.0.turned in
    let counts : c.take_turns.new.emulator.turns ≡ c.loop-emulator.emulator.turns + turned.quiet + 1 =
    turned.counted ∙ ap (λ (t : code.Turn). c.loop-emulator.emulator.turns + turned.quiet + turns_of t) c.in-Ok-Went.field-0-is in
    omega (arith, counts)

pub returns-in-Ok-Ended-clause-run : goal.returns-in-Ok-Ended-clause-run
returns-in-Ok-Ended-clause-run g c = λ left told.
    let i = c.loop-emulator.invariant in
    let is_coming : c.front_to_come-coming.result.now ≡ front_to_come c.loop-emulator.emulator.turns c.args.texts.front.now =
    coming_is c.front_to_come-coming.result.now c.args.texts.front.now c.turns-turns.result c.loop-emulator.emulator.turns c.front_to_come-coming.ensures c.turns-turns.ensures in
    let below : c.loop-emulator.emulator.turns < c.args.budget = omega arith in
    let room : c.limit_of-limit.result ≤ c.args.budget - c.loop-emulator.emulator.turns = omega (arith, c.limit_of-limit.ensures.few, c.turns-turns.ensures) in
    subst (λ (n : ℕ). IsOver c.args.emulator.now.quantum c.args.emulator.now.machine left c.args.budget n c.in-Ok-Ended.finish (contents g.I.Source.left g.O.Sink.written g.E.Sink.written c.args.dev.now) (contents g.I.Source.left g.O.Sink.written g.E.Sink.written c.take_turns.new.dev) c.take_turns.new.emulator.machine) (sym c.turns-in-Ok-Ended.ensures)
    (all_end (option_copied c.args.texts.names.trace) (option_copied c.args.texts.names.native) (option_copied c.args.texts.names.journal) c.requires.differ c.args.texts.front.now c.args.emulator.now.quantum c.args.emulator.now.machine c.args.budget c.limit_of-limit.result (contents g.I.Source.left g.O.Sink.written g.E.Sink.written c.args.dev.now) (contents g.I.Source.left g.O.Sink.written g.E.Sink.written c.loop-emulator.dev) (contents g.I.Source.left g.O.Sink.written g.E.Sink.written c.take_turns.new.dev) c.loop-emulator.emulator c.take_turns.new.emulator i.long i.so c.front_to_come-coming.result.now is_coming c.limit_of-limit.ensures.first
    (stored_of g.F.Store.files g.F.Store.created g.F.Store.loads g.F.Store.turned_away g.F.Store.write_faults c.loop-emulator.files) (stored_of g.F.Store.files g.F.Store.created g.F.Store.loads g.F.Store.turned_away g.F.Store.write_faults c.take_turns.new.files) c.in-Ok-Ended.field-0 c.in-Ok-Ended.ensures.turns c.in-Ok-Ended.finish c.in-Ok-Ended.field-0-is below room left told)

pub returns-in-Ok-Ended-clause-texts : goal.returns-in-Ok-Ended-clause-texts
returns-in-Ok-Ended-clause-texts g c = λ start made.
    let i = c.loop-emulator.invariant in
    let is_coming : c.front_to_come-coming.result.now ≡ front_to_come c.loop-emulator.emulator.turns c.args.texts.front.now =
    coming_is c.front_to_come-coming.result.now c.args.texts.front.now c.turns-turns.result c.loop-emulator.emulator.turns c.front_to_come-coming.ensures c.turns-turns.ensures in
    let below : c.loop-emulator.emulator.turns < c.args.budget = omega arith in
    let room : c.limit_of-limit.result ≤ c.args.budget - c.loop-emulator.emulator.turns = omega (arith, c.limit_of-limit.ensures.few, c.turns-turns.ensures) in
    all_written (option_copied c.args.texts.names.trace) (option_copied c.args.texts.names.native) (option_copied c.args.texts.names.journal) c.args.texts.front.now c.args.emulator.now.quantum c.args.emulator.now.machine c.args.budget c.turns-in-Ok-Ended.result (Ok c.in-Ok-Ended.finish) (contents g.I.Source.left g.O.Sink.written g.E.Sink.written c.args.dev.now) (contents g.I.Source.left g.O.Sink.written g.E.Sink.written c.take_turns.new.dev) start (stored_of g.F.Store.files g.F.Store.created g.F.Store.loads g.F.Store.turned_away g.F.Store.write_faults c.take_turns.new.files)
    (subst (λ (n : ℕ). AllAs (option_copied c.args.texts.names.trace) (option_copied c.args.texts.names.native) (option_copied c.args.texts.names.journal) c.args.texts.front.now c.args.emulator.now.quantum c.args.emulator.now.machine c.args.budget n (Ok c.in-Ok-Ended.finish) (g.I.Source.left c.args.dev.now.input) start (stored_of g.F.Store.files g.F.Store.created g.F.Store.loads g.F.Store.turned_away g.F.Store.write_faults c.take_turns.new.files)) (sym c.turns-in-Ok-Ended.ensures)
    (all_whole (option_copied c.args.texts.names.trace) (option_copied c.args.texts.names.native) (option_copied c.args.texts.names.journal) c.requires.differ c.args.texts.front.now c.args.emulator.now.quantum c.args.emulator.now.machine c.args.budget c.limit_of-limit.result (contents g.I.Source.left g.O.Sink.written g.E.Sink.written c.args.dev.now) (contents g.I.Source.left g.O.Sink.written g.E.Sink.written c.loop-emulator.dev) (contents g.I.Source.left g.O.Sink.written g.E.Sink.written c.take_turns.new.dev) c.loop-emulator.emulator c.take_turns.new.emulator i.long i.so c.front_to_come-coming.result.now is_coming c.limit_of-limit.ensures.first
    (stored_of g.F.Store.files g.F.Store.created g.F.Store.loads g.F.Store.turned_away g.F.Store.write_faults c.loop-emulator.files) (stored_of g.F.Store.files g.F.Store.created g.F.Store.loads g.F.Store.turned_away g.F.Store.write_faults c.take_turns.new.files) c.in-Ok-Ended.field-0 c.in-Ok-Ended.ensures.turns start (i.texts start made) c.in-Ok-Ended.finish c.in-Ok-Ended.field-0-is below room))

pub returns-in-Err-clause-run : goal.returns-in-Err-clause-run
returns-in-Err-clause-run g c =
    let i = c.loop-emulator.invariant in
    let is_coming : c.front_to_come-coming.result.now ≡ front_to_come c.loop-emulator.emulator.turns c.args.texts.front.now =
    coming_is c.front_to_come-coming.result.now c.args.texts.front.now c.turns-turns.result c.loop-emulator.emulator.turns c.front_to_come-coming.ensures c.turns-turns.ensures in
    let below : c.loop-emulator.emulator.turns < c.args.budget = omega arith in
    let room : c.limit_of-limit.result ≤ c.args.budget - c.loop-emulator.emulator.turns = omega (arith, c.limit_of-limit.ensures.few, c.turns-turns.ensures) in
    all_cut (option_copied c.args.texts.names.trace) (option_copied c.args.texts.names.native) (option_copied c.args.texts.names.journal) c.requires.differ c.args.texts.front.now c.args.emulator.now.quantum c.args.emulator.now.machine c.args.budget c.limit_of-limit.result (contents g.I.Source.left g.O.Sink.written g.E.Sink.written c.args.dev.now) (contents g.I.Source.left g.O.Sink.written g.E.Sink.written c.loop-emulator.dev) (contents g.I.Source.left g.O.Sink.written g.E.Sink.written c.take_turns.new.dev) c.loop-emulator.emulator c.take_turns.new.emulator i.long i.so c.front_to_come-coming.result.now is_coming c.limit_of-limit.ensures.first
    (stored_of g.F.Store.files g.F.Store.created g.F.Store.loads g.F.Store.turned_away g.F.Store.write_faults c.loop-emulator.files) (stored_of g.F.Store.files g.F.Store.created g.F.Store.loads g.F.Store.turned_away g.F.Store.write_faults c.take_turns.new.files) c.in-Err.cut below room c.in-Err.ensures.turns

pub returns-in-Err-clause-texts : goal.returns-in-Err-clause-texts
returns-in-Err-clause-texts g c = λ start made.
    let i = c.loop-emulator.invariant in
    let is_coming : c.front_to_come-coming.result.now ≡ front_to_come c.loop-emulator.emulator.turns c.args.texts.front.now =
    coming_is c.front_to_come-coming.result.now c.args.texts.front.now c.turns-turns.result c.loop-emulator.emulator.turns c.front_to_come-coming.ensures c.turns-turns.ensures in
    let below : c.loop-emulator.emulator.turns < c.args.budget = omega arith in
    let room : c.limit_of-limit.result ≤ c.args.budget - c.loop-emulator.emulator.turns = omega (arith, c.limit_of-limit.ensures.few, c.turns-turns.ensures) in
    all_written (option_copied c.args.texts.names.trace) (option_copied c.args.texts.names.native) (option_copied c.args.texts.names.journal) c.args.texts.front.now c.args.emulator.now.quantum c.args.emulator.now.machine c.args.budget c.in-Err.cut.turns (Err c.in-Err.cut.stop) (contents g.I.Source.left g.O.Sink.written g.E.Sink.written c.args.dev.now) (contents g.I.Source.left g.O.Sink.written g.E.Sink.written c.take_turns.new.dev) start (stored_of g.F.Store.files g.F.Store.created g.F.Store.loads g.F.Store.turned_away g.F.Store.write_faults c.take_turns.new.files)
    (all_partly (option_copied c.args.texts.names.trace) (option_copied c.args.texts.names.native) (option_copied c.args.texts.names.journal) c.requires.differ c.args.texts.front.now c.args.emulator.now.quantum c.args.emulator.now.machine c.args.budget c.limit_of-limit.result (contents g.I.Source.left g.O.Sink.written g.E.Sink.written c.args.dev.now) (contents g.I.Source.left g.O.Sink.written g.E.Sink.written c.loop-emulator.dev) (contents g.I.Source.left g.O.Sink.written g.E.Sink.written c.take_turns.new.dev) c.loop-emulator.emulator c.take_turns.new.emulator i.long i.so c.front_to_come-coming.result.now is_coming c.limit_of-limit.ensures.first
    (stored_of g.F.Store.files g.F.Store.created g.F.Store.loads g.F.Store.turned_away g.F.Store.write_faults c.loop-emulator.files) (stored_of g.F.Store.files g.F.Store.created g.F.Store.loads g.F.Store.turned_away g.F.Store.write_faults c.take_turns.new.files) c.in-Err.cut below room start (i.texts start made) c.in-Err.ensures.turns)

pub returns-in-Err-clause-early : goal.returns-in-Err-clause-early
returns-in-Err-clause-early g c = λ none unkept.
    let i = c.loop-emulator.invariant in
    let is_coming : c.front_to_come-coming.result.now ≡ front_to_come c.loop-emulator.emulator.turns c.args.texts.front.now =
    coming_is c.front_to_come-coming.result.now c.args.texts.front.now c.turns-turns.result c.loop-emulator.emulator.turns c.front_to_come-coming.ensures c.turns-turns.ensures in
    let below : c.loop-emulator.emulator.turns < c.args.budget = omega arith in
    let room : c.limit_of-limit.result ≤ c.args.budget - c.loop-emulator.emulator.turns = omega (arith, c.limit_of-limit.ensures.few, c.turns-turns.ensures) in
    all_below (option_copied c.args.texts.names.trace) (option_copied c.args.texts.names.native) (option_copied c.args.texts.names.journal) c.requires.differ c.args.texts.front.now c.args.emulator.now.quantum c.args.emulator.now.machine c.args.budget c.limit_of-limit.result (contents g.I.Source.left g.O.Sink.written g.E.Sink.written c.args.dev.now) (contents g.I.Source.left g.O.Sink.written g.E.Sink.written c.loop-emulator.dev) (contents g.I.Source.left g.O.Sink.written g.E.Sink.written c.take_turns.new.dev) c.loop-emulator.emulator c.take_turns.new.emulator i.long i.so c.front_to_come-coming.result.now is_coming c.limit_of-limit.ensures.first
    (stored_of g.F.Store.files g.F.Store.created g.F.Store.loads g.F.Store.turned_away g.F.Store.write_faults c.loop-emulator.files) (stored_of g.F.Store.files g.F.Store.created g.F.Store.loads g.F.Store.turned_away g.F.Store.write_faults c.take_turns.new.files) c.in-Err.cut below room c.in-Err.ensures.turns

pub returns-in-Err-clause-behind : goal.returns-in-Err-clause-behind
returns-in-Err-clause-behind g c = λ done.
    let i = c.loop-emulator.invariant in
    let is_coming : c.front_to_come-coming.result.now ≡ front_to_come c.loop-emulator.emulator.turns c.args.texts.front.now =
    coming_is c.front_to_come-coming.result.now c.args.texts.front.now c.turns-turns.result c.loop-emulator.emulator.turns c.front_to_come-coming.ensures c.turns-turns.ensures in
    let below : c.loop-emulator.emulator.turns < c.args.budget = omega arith in
    let room : c.limit_of-limit.result ≤ c.args.budget - c.loop-emulator.emulator.turns = omega (arith, c.limit_of-limit.ensures.few, c.turns-turns.ensures) in
    let under : c.in-Err.cut.turns < c.args.budget =
    all_below (option_copied c.args.texts.names.trace) (option_copied c.args.texts.names.native) (option_copied c.args.texts.names.journal) c.requires.differ c.args.texts.front.now c.args.emulator.now.quantum c.args.emulator.now.machine c.args.budget c.limit_of-limit.result (contents g.I.Source.left g.O.Sink.written g.E.Sink.written c.args.dev.now) (contents g.I.Source.left g.O.Sink.written g.E.Sink.written c.loop-emulator.dev) (contents g.I.Source.left g.O.Sink.written g.E.Sink.written c.take_turns.new.dev) c.loop-emulator.emulator c.take_turns.new.emulator i.long i.so c.front_to_come-coming.result.now is_coming c.limit_of-limit.ensures.first
    (stored_of g.F.Store.files g.F.Store.created g.F.Store.loads g.F.Store.turned_away g.F.Store.write_faults c.loop-emulator.files) (stored_of g.F.Store.files g.F.Store.created g.F.Store.loads g.F.Store.turned_away g.F.Store.write_faults c.take_turns.new.files) c.in-Err.cut below room c.in-Err.ensures.turns in
    absurd (omega (arith, under, done))

pub returns-clause-early : goal.returns-clause-early
returns-clause-early g c = λ none unkept.
    let i = c.loop-emulator.invariant in
    let within : c.end_of_budget.result.turns ≤ c.args.budget = omega (arith, i.most, c.turns-turns-2.ensures, c.end_of_budget.ensures.turns) in
    early_end c.end_of_budget.result.end c.end_of_budget.result.turns c.args.budget (c.end_of_budget.ensures.unnamed none unkept) within

pub returns-clause-run : goal.returns-clause-run
returns-clause-run g c =
    let i = c.loop-emulator.invariant in
    let is_coming : c.front_to_come.result.now ≡ front_to_come c.loop-emulator.emulator.turns c.args.texts.front.now =
    coming_is c.front_to_come.result.now c.args.texts.front.now c.turns-turns-2.result c.loop-emulator.emulator.turns c.front_to_come.ensures c.turns-turns-2.ensures in
    let full : c.loop-emulator.emulator.turns ≡ c.args.budget = omega (arith, i.most) in
    all_done (option_copied c.args.texts.names.trace) (option_copied c.args.texts.names.native) (option_copied c.args.texts.names.journal) c.requires.differ c.args.texts.front.now c.args.emulator.now.quantum c.args.emulator.now.machine c.args.budget c.turns-turns-2.result c.end_of_budget.result.turns (contents g.I.Source.left g.O.Sink.written g.E.Sink.written c.args.dev.now) (contents g.I.Source.left g.O.Sink.written g.E.Sink.written c.loop-emulator.dev) c.loop-emulator.emulator i.so c.front_to_come.result.now is_coming (stored_of g.F.Store.files g.F.Store.created g.F.Store.loads g.F.Store.turned_away g.F.Store.write_faults c.loop-emulator.files) (stored_of g.F.Store.files g.F.Store.created g.F.Store.loads g.F.Store.turned_away g.F.Store.write_faults c.end_of_budget.new.files) full c.turns-turns-2.ensures c.end_of_budget.ensures.turns c.end_of_budget.result.end c.end_of_budget.ensures.end

pub returns-clause-texts : goal.returns-clause-texts
returns-clause-texts g c = λ start made.
    let i = c.loop-emulator.invariant in
    let is_coming : c.front_to_come.result.now ≡ front_to_come c.loop-emulator.emulator.turns c.args.texts.front.now =
    coming_is c.front_to_come.result.now c.args.texts.front.now c.turns-turns-2.result c.loop-emulator.emulator.turns c.front_to_come.ensures c.turns-turns-2.ensures in
    let full : c.loop-emulator.emulator.turns ≡ c.args.budget = omega (arith, i.most) in
    all_written (option_copied c.args.texts.names.trace) (option_copied c.args.texts.names.native) (option_copied c.args.texts.names.journal) c.args.texts.front.now c.args.emulator.now.quantum c.args.emulator.now.machine c.args.budget c.end_of_budget.result.turns c.end_of_budget.result.end (contents g.I.Source.left g.O.Sink.written g.E.Sink.written c.args.dev.now) (contents g.I.Source.left g.O.Sink.written g.E.Sink.written c.loop-emulator.dev) start (stored_of g.F.Store.files g.F.Store.created g.F.Store.loads g.F.Store.turned_away g.F.Store.write_faults c.end_of_budget.new.files)
    (all_ended (option_copied c.args.texts.names.trace) (option_copied c.args.texts.names.native) (option_copied c.args.texts.names.journal) c.requires.differ c.args.texts.front.now c.args.emulator.now.quantum c.args.emulator.now.machine c.args.budget c.turns-turns-2.result c.end_of_budget.result.turns (contents g.I.Source.left g.O.Sink.written g.E.Sink.written c.args.dev.now) (contents g.I.Source.left g.O.Sink.written g.E.Sink.written c.loop-emulator.dev) c.loop-emulator.emulator i.so c.front_to_come.result.now is_coming (stored_of g.F.Store.files g.F.Store.created g.F.Store.loads g.F.Store.turned_away g.F.Store.write_faults c.loop-emulator.files) (stored_of g.F.Store.files g.F.Store.created g.F.Store.loads g.F.Store.turned_away g.F.Store.write_faults c.end_of_budget.new.files) full c.turns-turns-2.ensures c.end_of_budget.ensures.turns start (i.texts start made) c.end_of_budget.result.end c.end_of_budget.ensures.end)

pub returns-clause-behind : goal.returns-clause-behind
returns-clause-behind g c =
    behind_end c.end_of_budget.result.end c.end_of_budget.result.turns c.args.budget (g.F.Store.write_faults c.args.files.now) (g.F.Store.write_faults c.loop-emulator.files) (g.F.Store.write_faults c.end_of_budget.new.files)
    c.loop-emulator.invariant.writes c.end_of_budget.ensures.cause

pub returns-in-Ok-Ended-clause-keeps : goal.returns-in-Ok-Ended-clause-keeps
returns-in-Ok-Ended-clause-keeps g c = λ left told.
    let i = c.loop-emulator.invariant in
    keeps_behind c.args.emulator.now c.loop-emulator.emulator c.take_turns.new.emulator c.in-Ok-Ended.field-0 _ (contents g.I.Source.left g.O.Sink.written g.E.Sink.written c.loop-emulator.dev) (i.so left told).rest (i.keeps left told) c.in-Ok-Ended.ensures.turns.0.logged c.in-Ok-Ended.ensures.turns.0.recorded

pub returns-clause-keeps : goal.returns-clause-keeps
returns-clause-keeps g c = λ left told.
    keeps_however c.args.emulator.now c.loop-emulator.emulator (c.loop-emulator.invariant.keeps left told) c.end_of_budget.result.end

pub returns-in-Ok-Ended-clause-over : goal.returns-in-Ok-Ended-clause-over
returns-in-Ok-Ended-clause-over g c = λ left told.
    over_behind c.loop-emulator.emulator.quantum c.limit_of-limit.result c.loop-emulator.emulator.turns c.take_turns.new.emulator.turns c.loop-emulator.emulator.machine c.take_turns.new.emulator.machine c.take_turns.new.emulator.events (contents g.I.Source.left g.O.Sink.written g.E.Sink.written c.loop-emulator.dev) (contents g.I.Source.left g.O.Sink.written g.E.Sink.written c.take_turns.new.dev) c.in-Ok-Ended.field-0 c.in-Ok-Ended.finish _ c.take_turns.new.emulator.over
    (c.loop-emulator.invariant.so left told).rest c.in-Ok-Ended.field-0-is c.in-Ok-Ended.ensures.over c.in-Ok-Ended.ensures.turns.0.turned

pub returns-clause-over : goal.returns-clause-over
returns-clause-over g c = λ left told.
    over_however c.loop-emulator.emulator.over c.end_of_budget.result.end
    (λ finish is.
    let budget : finish ≡ Budget = (subst (λ (e : Result Finish Stop). EndsBudget (option_copied c.args.texts.names.trace) (option_copied c.args.texts.names.journal) c.front_to_come.result.now c.turns-turns-2.result e
    (stored_of g.F.Store.files g.F.Store.created g.F.Store.loads g.F.Store.turned_away g.F.Store.write_faults c.loop-emulator.files) (stored_of g.F.Store.files g.F.Store.created g.F.Store.loads g.F.Store.turned_away g.F.Store.write_faults c.end_of_budget.new.files)) is c.end_of_budget.ensures.end).0 in
    c.loop-emulator.invariant.on ∙ sym (ap no_turn_follows budget))
