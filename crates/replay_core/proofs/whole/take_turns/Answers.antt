use Rattle.std.proofs.Common.{◌<◌, ◌+◌, Err, Result, Some, arith, subst}
use Rattle.kernel_model.specs.Pipes.{nothing}
use Rattle.replay_core.specs.Answered.{written}
use Rattle.replay_core.specs.declared.difference.Halt.{Halt}
use Rattle.replay_core.specs.inside.Parts.{HaltsOnlyIfRose, replay_at}
use Rattle.replay_core.proofs.EffectSteps.{gains_nothing}
use Rattle.replay_core.proofs.Outputs.{counts_same, counts_then, goes_by, halts_after, stops_by}
use Rattle.replay_core.proofs.Turns.{ends_so, goes_at_start, goes_far, stops_far}
use Rattle.replay_core.proofs.whole.take_turns.Goals as goal

pub loop-turns-init : goal.loop-turns-init
loop-turns-init g c =
    let held = written g.O.Sink.written g.E.Sink.written c.args.out.now c.args.err.now in
    record {
      so = goes_at_start c.args.machine.now held (gains_nothing held);
      counts = counts_same (g.O.Sink.faults c.args.out.now) (g.E.Sink.faults c.args.err.now);
      within = omega arith;
    }

pub loop-turns-preserved : goal.loop-turns-preserved
loop-turns-preserved g c =
    let i = c.loop-turns.invariant in
    let taken = c.turns-taken in
    let below : c.loop-turns.turns + taken.result.quiet < c.args.end.turn = taken.ensures.few in
    let start = replay_at c.args.machine.now 0 nothing in
    let before = written g.O.Sink.written g.E.Sink.written c.args.out.now c.args.err.now in
    let now = written g.O.Sink.written g.E.Sink.written c.loop-turns.out c.loop-turns.err in
    let stay = subst
    (λ (r : Result Unit Halt). HaltsOnlyIfRose r (g.O.Sink.faults c.loop-turns.out) (g.O.Sink.faults taken.new.out) (g.E.Sink.faults c.loop-turns.err) (g.E.Sink.faults taken.new.err))
    c.in-Ok.is taken.ensures.cause in
    record {
      so = goes_far start c.loop-turns.turns c.loop-turns.machine before now i.so taken.new.self taken.result.quiet (written g.O.Sink.written g.E.Sink.written taken.new.out taken.new.err)
          taken.result.came c.in-Ok.is taken.ensures.came;
      counts = counts_then i.counts stay;
      within = omega (arith, below);
    }

pub returns-in-Err-clause-answers : goal.returns-in-Err-clause-answers
returns-in-Err-clause-answers g c =
    let i = c.loop-turns.invariant in
    let taken = c.turns-taken in
    let start = replay_at c.args.machine.now 0 nothing in
    let before = written g.O.Sink.written g.E.Sink.written c.args.out.now c.args.err.now in
    let now = written g.O.Sink.written g.E.Sink.written c.loop-turns.out c.loop-turns.err in
    rw c.end_by.ensures (stops_far start c.loop-turns.turns c.loop-turns.machine before now i.so taken.new.self taken.result.quiet (written g.O.Sink.written g.E.Sink.written taken.new.out taken.new.err)
    c.args.end.turn (Some c.args.end.finish) taken.result.came c.in-Err.halt taken.ensures.few c.in-Err.is taken.ensures.came)

pub returns-in-Err-clause-goes : goal.returns-in-Err-clause-goes
returns-in-Err-clause-goes g c = rw c.end_by.ensures (goes_by (c.loop-turns.turns + c.turns-taken.result.quiet) c.in-Err.halt)

pub returns-in-Err-clause-cause : goal.returns-in-Err-clause-cause
returns-in-Err-clause-cause g c =
    let taken = c.turns-taken in
    let halts = subst
    (λ (r : Result Unit Halt). HaltsOnlyIfRose r (g.O.Sink.faults c.loop-turns.out) (g.O.Sink.faults taken.new.out) (g.E.Sink.faults c.loop-turns.err) (g.E.Sink.faults taken.new.err))
    c.in-Err.is taken.ensures.cause in
    rw c.end_by.ensures (stops_by (c.loop-turns.turns + taken.result.quiet) c.in-Err.halt (g.O.Sink.faults c.args.out.now) (g.O.Sink.faults taken.new.out) (g.E.Sink.faults c.args.err.now) (g.E.Sink.faults taken.new.err)
    (halts_after (Err c.in-Err.halt) (g.O.Sink.faults c.args.out.now) (g.O.Sink.faults c.loop-turns.out) (g.O.Sink.faults taken.new.out)
    (g.E.Sink.faults c.args.err.now) (g.E.Sink.faults c.loop-turns.err) (g.E.Sink.faults taken.new.err) c.loop-turns.invariant.counts halts))

pub returns-clause-answers : goal.returns-clause-answers
returns-clause-answers g c =
    let start = replay_at c.args.machine.now 0 nothing in
    ends_so start c.args.end.turn c.loop-turns.turns c.loop-turns.machine (written g.O.Sink.written g.E.Sink.written c.args.out.now c.args.err.now) (written g.O.Sink.written g.E.Sink.written c.loop-turns.out c.loop-turns.err)
    c.args.end.finish (omega (arith, c.loop-turns.invariant.within)) c.loop-turns.invariant.so

pub returns-clause-cause : goal.returns-clause-cause
returns-clause-cause g c = c.loop-turns.invariant.counts
