-- The turn of a call's outcome, by its words and the machine before.
use Rattle.o32_machine.specs.Emulator.{machine_of}
use Rattle.o32_machine.proofs.process.Process.finish.Goals as goal

pub returns-clause-over : goal.returns-clause-over
returns-clause-over c = c.turn_of.ensures.over c.args.words.now (machine_of c.args.self.now)
