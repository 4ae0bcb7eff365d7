use Rattle.o32_model.proofs.TableQuiet.{o32_call_quiet}
use Rattle.o32_model.proofs.laws.a_call_that_fails_moves_nothing.Goals as goal

pub returns : goal.returns
returns c = λ kernel guest left other whole. o32_call_quiet kernel guest left other whole
