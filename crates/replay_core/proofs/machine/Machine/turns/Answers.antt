use Rattle.replay_core.specs.Answered.{written}
use Rattle.replay_core.proofs.Stretches.{takes_one}
use Rattle.replay_core.proofs.machine.Machine.turns.Goals as goal

pub returns-in-None-clause-came : goal.returns-in-None-clause-came
returns-in-None-clause-came g c =
    takes_one c.args.self.now c.turn.new.self c.args.turns (written g.O.Sink.written g.E.Sink.written c.args.out.now c.args.err.now) (written g.O.Sink.written g.E.Sink.written c.turn.new.out c.turn.new.err)
    c.turn.result c.turn.ensures.came

pub returns-in-Some-clause-came : goal.returns-in-Some-clause-came
returns-in-Some-clause-came g c = c.stretch.ensures.came (written g.O.Sink.written g.E.Sink.written c.args.out.now c.args.err.now)

pub returns-in-Some-clause-cause : goal.returns-in-Some-clause-cause
returns-in-Some-clause-cause g c = c.stretch.ensures.still (g.O.Sink.faults c.args.out.now) (g.E.Sink.faults c.args.err.now)
