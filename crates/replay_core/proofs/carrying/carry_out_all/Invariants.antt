use Rattle.std.proofs.Common.{◌≡◌, All, length}
use Rattle.journal.specs.Form.{IsEffect}
use Rattle.kernel_model.specs.Pipes.{Sent}
use Rattle.replay_core.specs.Answered.{CountsStay, Gains, Written, written}
use Rattle.replay_core.specs.Replay.{carried_all}
use Rattle.replay_core.specs.inside.Parts.{target_at}
use Rattle.replay_core.proofs.EffectSteps.{Going}
use Rattle.replay_core.proofs.carrying.carry_out_all.Given as goal

abbrev pub invariant-loop-effect : goal.invariant-loop-effect
invariant-loop-effect g l = record {
  formed : All IsEffect l.effects;
  others : l.space ≡ record l.fn.space { pages = l.space.pages };
  going : (first : Written) (sent : Sent) → Gains first (written g.O.Sink.written g.E.Sink.written l.fn.out l.fn.err) sent
      → Going first sent (carried_all (target_at l.fn.cpu l.fn.space sent) l.fn.effects) (λ s. carried_all (target_at l.cpu l.space s) l.effects)
      (written g.O.Sink.written g.E.Sink.written l.out l.err);
  counts : CountsStay (g.O.Sink.faults l.fn.out) (g.O.Sink.faults l.out) (g.E.Sink.faults l.fn.err) (g.E.Sink.faults l.err);
}

abbrev pub decreases-loop-effect : goal.decreases-loop-effect
decreases-loop-effect g l = length l.effects
