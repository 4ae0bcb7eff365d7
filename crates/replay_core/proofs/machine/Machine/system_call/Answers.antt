use Rattle.std.proofs.Common.{◌∙◌, sym, refl}
use Rattle.replay_core.specs.Answered.{written}
use Rattle.replay_core.proofs.Parts.{call_lacks, called}
use Rattle.replay_core.proofs.machine.Machine.system_call.Goals as goal

pub returns-then-comes-clause-came : goal.returns-then-comes-clause-came
returns-then-comes-clause-came g c =
    called c.args.self.now c.take.new.self (written g.O.Sink.written g.E.Sink.written c.args.out.now c.args.err.now) (written g.O.Sink.written g.E.Sink.written c.take.new.out c.take.new.err)
    c.args.turn c.args.words.now c.take.result (sym c.comes.ensures ∙ c.if-comes.true) c.take.ensures.came

pub returns-else-comes-clause-came : goal.returns-else-comes-clause-came
returns-else-comes-clause-came g c =
    call_lacks c.args.self.now c.args.self.now (written g.O.Sink.written g.E.Sink.written c.args.out.now c.args.err.now) c.args.turn c.args.words.now (record { wanted = 0; found = 1 }) (sym c.comes.ensures ∙ c.if-comes.false) refl
