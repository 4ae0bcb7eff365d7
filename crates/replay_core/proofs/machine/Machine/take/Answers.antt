use Rattle.replay_core.specs.Answered.{written}
use Rattle.journal.specs.Seen.{record_seen}
use Rattle.replay_core.proofs.Parts.{took, took_none}
use Rattle.replay_core.proofs.machine.Machine.take.Goals as goal

pub returns-in-Some-clause-came : goal.returns-in-Some-clause-came
returns-in-Some-clause-came g c =
    took c.args.self.now c.carry_record.new.self (written g.O.Sink.written g.E.Sink.written c.args.out.now c.args.err.now) (written g.O.Sink.written g.E.Sink.written c.carry_record.new.out c.carry_record.new.err)
    c.args.words.now (record_seen c.in-Some.entry) c.take.new.self c.carry_record.result c.in-Some.ensures.taken c.carry_record.ensures.came

pub returns-in-None-clause-came : goal.returns-in-None-clause-came
returns-in-None-clause-came g c =
    took_none c.args.self.now (written g.O.Sink.written g.E.Sink.written c.args.out.now c.args.err.now) c.args.words.now c.take.new.self c.in-None.ensures.taken.0 c.in-None.ensures.taken.1
