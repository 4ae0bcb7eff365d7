use Rattle.std.proofs.Common.{◌∙◌, sym}
use Rattle.replay_core.specs.Answered.{written}
use Rattle.replay_core.proofs.Parts.{before_none, before_took}
use Rattle.replay_core.proofs.machine.Machine.before_instruction.Goals as goal

pub returns-then-comes-clause-came : goal.returns-then-comes-clause-came
returns-then-comes-clause-came g c =
    before_took c.args.self.now c.take.new.self (written g.O.Sink.written g.E.Sink.written c.args.out.now c.args.err.now) (written g.O.Sink.written g.E.Sink.written c.take.new.out c.take.new.err)
    c.args.turn c.words_of-words.result c.take.result (sym c.comes.ensures ∙ c.if-comes.true) c.words_of-words.ensures c.take.ensures.came

pub returns-else-comes-clause-came : goal.returns-else-comes-clause-came
returns-else-comes-clause-came g c =
    before_none c.args.self.now (written g.O.Sink.written g.E.Sink.written c.args.out.now c.args.err.now) c.args.turn (sym c.comes.ensures ∙ c.if-comes.false)
