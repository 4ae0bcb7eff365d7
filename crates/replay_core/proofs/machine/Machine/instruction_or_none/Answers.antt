use Rattle.std.proofs.Common.{◌∙◌, sym}
use Rattle.replay_core.specs.Answered.{written}
use Rattle.replay_core.proofs.Parts.{killed_none, waiting, working}
use Rattle.replay_core.proofs.machine.Machine.instruction_or_none.Goals as goal

pub returns-then-ends_killed-clause-came : goal.returns-then-ends_killed-clause-came
returns-then-ends_killed-clause-came g c =
    killed_none c.args.self.now (written g.O.Sink.written g.E.Sink.written c.args.out.now c.args.err.now) c.args.turn (sym c.ends_killed.ensures ∙ c.if-ends_killed.true)

pub returns-then-comes-clause-came : goal.returns-then-comes-clause-came
returns-then-comes-clause-came g c =
    let held = (written g.O.Sink.written g.E.Sink.written c.args.out.now c.args.err.now) in
    waiting c.args.self.now c.wait.new.self held c.args.turn c.wait.result (sym c.ends_killed.ensures ∙ c.if-ends_killed.false) (sym c.comes.ensures ∙ c.if-comes.true) (c.wait.ensures.came held)

pub returns-else-comes-clause-came : goal.returns-else-comes-clause-came
returns-else-comes-clause-came g c =
    working c.args.self.now c.instruction.new.self (written g.O.Sink.written g.E.Sink.written c.args.out.now c.args.err.now) (written g.O.Sink.written g.E.Sink.written c.instruction.new.out c.instruction.new.err)
    c.args.turn c.instruction.result (sym c.ends_killed.ensures ∙ c.if-ends_killed.false) (sym c.comes.ensures ∙ c.if-comes.false) c.instruction.ensures.came

pub returns-then-comes-clause-cause : goal.returns-then-comes-clause-cause
returns-then-comes-clause-cause g c = c.wait.ensures.still (g.O.Sink.faults c.args.out.now) (g.E.Sink.faults c.args.err.now)
