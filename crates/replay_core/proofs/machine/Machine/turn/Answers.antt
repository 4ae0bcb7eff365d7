use Rattle.replay_core.specs.Answered.{written}
use Rattle.replay_core.proofs.Outputs.{halts_after}
use Rattle.replay_core.proofs.Parts.{turn_goes, turn_stops}
use Rattle.replay_core.proofs.machine.Machine.turn.Goals as goal

pub returns-in-Ok-clause-came : goal.returns-in-Ok-clause-came
returns-in-Ok-clause-came g c =
    turn_goes c.args.self.now c.before_instruction.new.self c.instruction_or_none.new.self
    (written g.O.Sink.written g.E.Sink.written c.args.out.now c.args.err.now) (written g.O.Sink.written g.E.Sink.written c.before_instruction.new.out c.before_instruction.new.err)
    (written g.O.Sink.written g.E.Sink.written c.instruction_or_none.new.out c.instruction_or_none.new.err) c.args.turns c.instruction_or_none.result c.in-Ok.ensures.came c.instruction_or_none.ensures.came

pub returns-in-Ok-clause-cause : goal.returns-in-Ok-clause-cause
returns-in-Ok-clause-cause g c =
    halts_after c.instruction_or_none.result (g.O.Sink.faults c.args.out.now) (g.O.Sink.faults c.before_instruction.new.out) (g.O.Sink.faults c.instruction_or_none.new.out)
    (g.E.Sink.faults c.args.err.now) (g.E.Sink.faults c.before_instruction.new.err) (g.E.Sink.faults c.instruction_or_none.new.err) c.in-Ok.ensures.cause c.instruction_or_none.ensures.cause

pub returns-in-Err-clause-came : goal.returns-in-Err-clause-came
returns-in-Err-clause-came g c =
    turn_stops c.args.self.now c.before_instruction.new.self c.before_instruction.new.self (written g.O.Sink.written g.E.Sink.written c.args.out.now c.args.err.now)
    (written g.O.Sink.written g.E.Sink.written c.before_instruction.new.out c.before_instruction.new.err) c.args.turns c.in-Err.halt c.in-Err.ensures.came
