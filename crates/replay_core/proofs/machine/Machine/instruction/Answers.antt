use Rattle.mips_exec.specs.Step.{Step}
use Rattle.replay_core.specs.Answered.{written}
use Rattle.replay_core.proofs.Parts.{instructed, instruction_lacks}
use Rattle.replay_core.proofs.machine.Machine.instruction.Goals as goal

pub returns-in-Ok-clause-came : goal.returns-in-Ok-clause-came
returns-in-Ok-clause-came g c =
    let step : Step = record { processor = c.step.new.cpu; memory = c.step.new.space; came = c.in-Ok.came } in
    instructed c.args.self.now c.after_step.new.self (written g.O.Sink.written g.E.Sink.written c.args.out.now c.args.err.now) (written g.O.Sink.written g.E.Sink.written c.after_step.new.out c.after_step.new.err)
    c.args.turn c.words_of-words.result step c.after_step.result c.words_of-words.ensures c.in-Ok.ensures.ok c.after_step.ensures.came

pub returns-in-Err-clause-came : goal.returns-in-Err-clause-came
returns-in-Err-clause-came g c =
    instruction_lacks c.args.self.now (record c.args.self.now { cpu = c.step.new.cpu; space = c.step.new.space }) (written g.O.Sink.written g.E.Sink.written c.args.out.now c.args.err.now) c.args.turn
