use Rattle.std.proofs.Common.{◌≡◌, [], All, Err, List, ap, subst, refl, ◌∙◌}
use Rattle.std.proofs.lemmas.List.Elements.{All-head, All-tail}
use Rattle.guest_space.specs.Memory.{Memory}
use Rattle.journal.specs.Form.{IsEffect}
use Rattle.journal.specs.Seen.{effect_seen}
use Rattle.kernel_core.specs.declared.record.Effect.{Effect}
use Rattle.kernel_model.specs.Pipes.{Sent}
use Rattle.replay_core.specs.Answered.{written}
use Rattle.replay_core.specs.Replay.{carried_all}
use Rattle.replay_core.specs.inside.Parts.{target_at}
use Rattle.replay_core.proofs.EffectSteps.{Going, going_at_start, going_ends, going_on, going_stops}
use Rattle.replay_core.proofs.Outputs.{counts_same, counts_then, halts_after}
use Rattle.replay_core.proofs.carrying.carry_out_all.Goals as goal

pub loop-effect-init : goal.loop-effect-init
loop-effect-init g c = record {
  formed = c.requires;
  others = refl;
  going = λ first sent gains.
      going_at_start first sent (λ (s : Sent). carried_all (target_at c.args.cpu.now c.args.space.now s) c.args.effects) (written g.O.Sink.written g.E.Sink.written c.args.out.now c.args.err.now) gains;
  counts = counts_same (g.O.Sink.faults c.args.out.now) (g.E.Sink.faults c.args.err.now);
}

pub carry_out-requires : goal.carry_out-requires
carry_out-requires g c = All-head IsEffect (effect_seen c.in-Some.effect) c.next.new.self (subst (λ (l : List Effect). All IsEffect l) c.in-Some.ensures c.loop-effect.invariant.formed)

pub loop-effect-preserved : goal.loop-effect-preserved
loop-effect-preserved g c =
    let i = c.loop-effect.invariant in
    let effect = effect_seen c.in-Some.effect in
    record {
      formed = All-tail IsEffect effect c.next.new.self (subst (λ (l : List Effect). All IsEffect l) c.in-Some.ensures i.formed);
      others = c.in-Ok.ensures.others ∙ ap (λ (m : Memory). let n : Memory = record m { pages = c.carry_out.new.space.pages } in n) i.others;
      going = λ first sent gains.
          let whole = carried_all (target_at c.args.cpu.now c.args.space.now sent) c.args.effects in
          let held = written g.O.Sink.written g.E.Sink.written c.loop-effect.out c.loop-effect.err in
          let going = subst (λ (l : List Effect). Going first sent whole (λ (s : Sent). carried_all (target_at c.loop-effect.cpu c.loop-effect.space s) l) held) c.in-Some.ensures (i.going first sent gains) in
          going_on first sent whole held (written g.O.Sink.written g.E.Sink.written c.carry_out.new.out c.carry_out.new.err) c.loop-effect.cpu c.carry_out.new.cpu c.loop-effect.space c.carry_out.new.space
          effect c.next.new.self going (c.in-Ok.ensures.carried first going.by_now going.gained);
      counts = counts_then i.counts c.in-Ok.ensures.cause;
    }

pub returns-in-Err-clause-carried : goal.returns-in-Err-clause-carried
returns-in-Err-clause-carried g c = λ first sent gains.
    let i = c.loop-effect.invariant in
    let effect = effect_seen c.in-Some.effect in
    let whole = carried_all (target_at c.args.cpu.now c.args.space.now sent) c.args.effects in
    let held = written g.O.Sink.written g.E.Sink.written c.loop-effect.out c.loop-effect.err in
    let going = subst (λ (l : List Effect). Going first sent whole (λ (s : Sent). carried_all (target_at c.loop-effect.cpu c.loop-effect.space s) l) held) c.in-Some.ensures (i.going first sent gains) in
    going_stops first sent whole held (written g.O.Sink.written g.E.Sink.written c.carry_out.new.out c.carry_out.new.err) c.loop-effect.cpu c.carry_out.new.cpu c.loop-effect.space c.carry_out.new.space
    effect c.next.new.self c.in-Err.halt going (c.in-Err.ensures.carried first going.by_now going.gained)

pub returns-in-Err-clause-cause : goal.returns-in-Err-clause-cause
returns-in-Err-clause-cause g c =
    halts_after (Err c.in-Err.halt) (g.O.Sink.faults c.args.out.now) (g.O.Sink.faults c.loop-effect.out) (g.O.Sink.faults c.carry_out.new.out)
    (g.E.Sink.faults c.args.err.now) (g.E.Sink.faults c.loop-effect.err) (g.E.Sink.faults c.carry_out.new.err) c.loop-effect.invariant.counts c.in-Err.ensures.cause

pub returns-clause-carried : goal.returns-clause-carried
returns-clause-carried g c = λ first sent gains.
    let none : c.loop-effect.effects ≡ [] = (rw c.in_default.is at c.next.ensures).0 in
    going_ends first sent (carried_all (target_at c.args.cpu.now c.args.space.now sent) c.args.effects) (written g.O.Sink.written g.E.Sink.written c.loop-effect.out c.loop-effect.err)
    c.loop-effect.cpu c.loop-effect.space c.loop-effect.effects none (c.loop-effect.invariant.going first sent gains)

pub returns-clause-others : goal.returns-clause-others
returns-clause-others g c = c.loop-effect.invariant.others

pub returns-clause-cause : goal.returns-clause-cause
returns-clause-cause g c = c.loop-effect.invariant.counts
