use Rattle.std.proofs.Common.{◌≤◌, ◌-◌}
use Rattle.kernel_model.specs.Pipes.{nothing}
use Rattle.replay_core.specs.Answered.{CountsStay, written}
use Rattle.replay_core.specs.inside.Parts.{replay_at}
use Rattle.replay_core.proofs.Turns.{GoesSo}
use Rattle.replay_core.proofs.whole.take_turns.Given as goal

abbrev pub invariant-loop-turns : goal.invariant-loop-turns
invariant-loop-turns g l = record {
  so : GoesSo (replay_at l.fn.machine 0 nothing) l.turns l.machine (written g.O.Sink.written g.E.Sink.written l.fn.out l.fn.err) (written g.O.Sink.written g.E.Sink.written l.out l.err);
  counts : CountsStay (g.O.Sink.faults l.fn.out) (g.O.Sink.faults l.out) (g.E.Sink.faults l.fn.err) (g.E.Sink.faults l.err);
  within : l.turns ≤ l.end.turn;
}

abbrev pub decreases-loop-turns : goal.decreases-loop-turns
decreases-loop-turns g l = l.end.turn - l.turns
