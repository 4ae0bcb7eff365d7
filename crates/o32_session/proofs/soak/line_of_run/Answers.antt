use Rattle.o32_session.specs.Soaked.{stops_behind}
use Rattle.o32_session.proofs.soak.line_of_run.Goals as goal

pub returns-in-Ok-clause-soaked : goal.returns-in-Ok-clause-soaked
returns-in-Ok-clause-soaked c = record { over = c.requires.over; turned = c.requires.turned; quantum = c.requires.quantum; keeps = c.requires.keeps; last = c.requires.last; line = c.in-Ok.ensures }

pub returns-in-Err-clause-stopped : goal.returns-in-Err-clause-stopped
returns-in-Err-clause-stopped c = stops_behind c.args.ended.turns c.args.ended.finish c.args.emulator.machine c.requires.over
