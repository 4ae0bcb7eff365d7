use Rattle.std.proofs.Common.{◌≡◌, ◌+◌, ◌-◌, ◌<◌, ◌≤◌, ℕ, ap, arith, refl, subst, sym, ◌∙◌}
use Rattle.outside.specs.Streams.{contents}
use Rattle.outside.proofs.StreamLemmas.{NoCountRose-refl, NoCountRose-trans}
use Rattle.o32_machine.specs.Answered.{is_end, turns_of}
use Rattle.o32_machine.specs.declared.turn.Turn as code
use Rattle.o32_runner.specs.Runs.{IsCut, IsOver, IsSoFar, turns_begun}
use Rattle.o32_runner.proofs.QuietTurns.{is_cut_after, is_done, is_over_after, went_after}
use Rattle.o32_runner.proofs.KeptTexts.{keeps_behind, keeps_first, over_behind}
use Rattle.o32_runner.proofs.RunLemmas.{at_start}
use Rattle.o32_runner.proofs.Telling.{cut_within}
use Rattle.o32_runner.proofs.untraced.run.Goals as goal

pub loop-emulator-init : goal.loop-emulator-init
loop-emulator-init g c = record {
  most = omega (arith, c.requires.fresh.none);
  on = c.requires.fresh.on;
  long = refl;
  so = λ left told.
      let at = contents g.I.Source.left g.O.Sink.written g.E.Sink.written c.args.dev.now in
      let e = c.args.emulator.now in
      subst (λ (n : ℕ). IsSoFar e.quantum e.machine left n at at e.machine) (sym c.requires.fresh.none) (at_start e.quantum e.machine left at told);
  keeps = λ left told. keeps_first c.args.emulator.now;
  later = record { input_later = omega arith; out_later = omega arith; err_later = omega arith };
  stays = NoCountRose-refl g.I.Source.faults g.O.Sink.faults g.E.Sink.faults c.args.dev.now;
}

pub loop-emulator-preserved : goal.loop-emulator-preserved
loop-emulator-preserved g c =
    let i = c.loop-emulator.invariant in
    let turned = c.in-Ok-Went.ensures.turns in
    let counts : c.next_turns.new.self.turns ≡ c.loop-emulator.emulator.turns + turned.quiet + 1 =
    turned.counted ∙ ap (λ (t : code.Turn). c.loop-emulator.emulator.turns + turned.quiet + turns_of t) c.in-Ok-Went.field-0-is in
    record {
      most = omega (arith, turned.within, counts);
      on = c.in-Ok-Went.ensures.over ∙ ap is_end c.in-Ok-Went.field-0-is;
      long = c.next_turns.ensures.quantum ∙ i.long;
      so = λ left told.
          went_after c.args.emulator.now.quantum c.args.emulator.now.machine left c.loop-emulator.emulator.turns c.loop-emulator.emulator.quantum (c.args.budget - c.turns-in-loop-emulator.result) (contents g.I.Source.left g.O.Sink.written g.E.Sink.written c.args.dev.now) (contents g.I.Source.left g.O.Sink.written g.E.Sink.written c.loop-emulator.dev) (contents g.I.Source.left g.O.Sink.written g.E.Sink.written c.next_turns.new.dev) c.loop-emulator.emulator.machine c.next_turns.new.self.machine c.next_turns.new.self.turns c.next_turns.new.self.events i.long (i.so left told) c.in-Ok-Went.field-0 c.in-Ok-Went.field-0-is turned;
      keeps = λ left told.
          keeps_behind c.args.emulator.now c.loop-emulator.emulator c.next_turns.new.self c.in-Ok-Went.field-0 _ (contents g.I.Source.left g.O.Sink.written g.E.Sink.written c.loop-emulator.dev) (i.so left told).rest (i.keeps left told) c.in-Ok-Went.ensures.native c.in-Ok-Went.ensures.records;
      later = record {
        input_later = omega (arith, i.later.input_later, c.next_turns.ensures.counts.input_later);
        out_later = omega (arith, i.later.out_later, c.next_turns.ensures.counts.out_later);
        err_later = omega (arith, i.later.err_later, c.next_turns.ensures.counts.err_later);
      };
      stays = NoCountRose-trans i.stays c.in-Ok-Went.ensures.cause;
    }

pub loop-emulator-smaller : goal.loop-emulator-smaller
loop-emulator-smaller g c =
    let turned = c.in-Ok-Went.ensures.turns in
    let counts : c.next_turns.new.self.turns ≡ c.loop-emulator.emulator.turns + turned.quiet + 1 =
    turned.counted ∙ ap (λ (t : code.Turn). c.loop-emulator.emulator.turns + turned.quiet + turns_of t) c.in-Ok-Went.field-0-is in
    omega (arith, counts)

pub returns-in-Ok-Ended-clause-run : goal.returns-in-Ok-Ended-clause-run
returns-in-Ok-Ended-clause-run g c = λ left told.
    let i = c.loop-emulator.invariant in
    let below : c.loop-emulator.emulator.turns < c.args.budget = omega arith in
    let room : c.args.budget - c.turns-in-loop-emulator.result ≤ c.args.budget - c.loop-emulator.emulator.turns = omega (arith, c.turns-in-loop-emulator.ensures) in
    subst (λ (n : ℕ). IsOver c.args.emulator.now.quantum c.args.emulator.now.machine left c.args.budget n c.in-Ok-Ended.finish (contents g.I.Source.left g.O.Sink.written g.E.Sink.written c.args.dev.now) (contents g.I.Source.left g.O.Sink.written g.E.Sink.written c.next_turns.new.dev) c.next_turns.new.self.machine) (sym c.turns-in-Ok-Ended.ensures)
    (is_over_after c.args.emulator.now.quantum c.args.emulator.now.machine left c.loop-emulator.emulator.turns c.loop-emulator.emulator.quantum (c.args.budget - c.turns-in-loop-emulator.result) (contents g.I.Source.left g.O.Sink.written g.E.Sink.written c.args.dev.now) (contents g.I.Source.left g.O.Sink.written g.E.Sink.written c.loop-emulator.dev) (contents g.I.Source.left g.O.Sink.written g.E.Sink.written c.next_turns.new.dev) c.loop-emulator.emulator.machine c.next_turns.new.self.machine c.next_turns.new.self.turns c.next_turns.new.self.events i.long (i.so left told)
    c.args.budget c.in-Ok-Ended.field-0 c.in-Ok-Ended.finish c.in-Ok-Ended.field-0-is below room c.in-Ok-Ended.ensures.turns)

pub returns-in-Err-clause-run : goal.returns-in-Err-clause-run
returns-in-Err-clause-run g c = λ left told.
    let i = c.loop-emulator.invariant in
    let turned = c.in-Err.ensures.turns in
    let below : c.loop-emulator.emulator.turns < c.args.budget = omega arith in
    let room : c.args.budget - c.turns-in-loop-emulator.result ≤ c.args.budget - c.loop-emulator.emulator.turns = omega (arith, c.turns-in-loop-emulator.ensures) in
    let within : c.next_turns.new.self.turns < c.args.budget = omega (arith, below, room, turned.within, turned.counted) in
    subst (λ (n : ℕ). IsCut c.args.emulator.now.quantum c.args.emulator.now.machine left n (turns_begun c.args.budget n) (contents g.I.Source.left g.O.Sink.written g.E.Sink.written c.args.dev.now) (contents g.I.Source.left g.O.Sink.written g.E.Sink.written c.next_turns.new.dev)) (sym c.turns-in-Err.ensures)
    (cut_within c.args.emulator.now.quantum c.args.emulator.now.machine left c.next_turns.new.self.turns c.args.budget (contents g.I.Source.left g.O.Sink.written g.E.Sink.written c.args.dev.now) (contents g.I.Source.left g.O.Sink.written g.E.Sink.written c.next_turns.new.dev) within
    (is_cut_after c.args.emulator.now.quantum c.args.emulator.now.machine left c.loop-emulator.emulator.turns c.loop-emulator.emulator.quantum (c.args.budget - c.turns-in-loop-emulator.result) (contents g.I.Source.left g.O.Sink.written g.E.Sink.written c.args.dev.now) (contents g.I.Source.left g.O.Sink.written g.E.Sink.written c.loop-emulator.dev) (contents g.I.Source.left g.O.Sink.written g.E.Sink.written c.next_turns.new.dev) c.loop-emulator.emulator.machine c.next_turns.new.self.machine c.next_turns.new.self.turns c.next_turns.new.self.events i.long (i.so left told)
    c.in-Err.stop c.in-Err.ensures.turns))

pub returns-clause-run : goal.returns-clause-run
returns-clause-run g c = λ left told.
    let i = c.loop-emulator.invariant in
    let full : c.loop-emulator.emulator.turns ≡ c.args.budget = omega (arith, i.most) in
    is_done c.args.emulator.now.quantum c.args.emulator.now.machine left c.loop-emulator.emulator.turns c.args.budget c.turns-2.result (contents g.I.Source.left g.O.Sink.written g.E.Sink.written c.args.dev.now) (contents g.I.Source.left g.O.Sink.written g.E.Sink.written c.loop-emulator.dev) c.loop-emulator.emulator.machine (i.so left told) full c.turns-2.ensures

pub returns-in-Ok-Ended-clause-keeps : goal.returns-in-Ok-Ended-clause-keeps
returns-in-Ok-Ended-clause-keeps g c = λ left told.
    let i = c.loop-emulator.invariant in
    keeps_behind c.args.emulator.now c.loop-emulator.emulator c.next_turns.new.self c.in-Ok-Ended.field-0 _ (contents g.I.Source.left g.O.Sink.written g.E.Sink.written c.loop-emulator.dev) (i.so left told).rest (i.keeps left told) c.in-Ok-Ended.ensures.native c.in-Ok-Ended.ensures.records

pub returns-clause-keeps : goal.returns-clause-keeps
returns-clause-keeps g c = λ left told. c.loop-emulator.invariant.keeps left told

pub returns-in-Ok-Ended-clause-over : goal.returns-in-Ok-Ended-clause-over
returns-in-Ok-Ended-clause-over g c = λ left told.
    over_behind c.loop-emulator.emulator.quantum (c.args.budget - c.turns-in-loop-emulator.result) c.loop-emulator.emulator.turns c.next_turns.new.self.turns c.loop-emulator.emulator.machine c.next_turns.new.self.machine c.next_turns.new.self.events (contents g.I.Source.left g.O.Sink.written g.E.Sink.written c.loop-emulator.dev) (contents g.I.Source.left g.O.Sink.written g.E.Sink.written c.next_turns.new.dev) c.in-Ok-Ended.field-0 c.in-Ok-Ended.finish _ c.next_turns.new.self.over
    (c.loop-emulator.invariant.so left told).rest c.in-Ok-Ended.field-0-is c.in-Ok-Ended.ensures.over c.in-Ok-Ended.ensures.turns

pub returns-clause-over : goal.returns-clause-over
returns-clause-over g c = λ left told. c.loop-emulator.invariant.on
