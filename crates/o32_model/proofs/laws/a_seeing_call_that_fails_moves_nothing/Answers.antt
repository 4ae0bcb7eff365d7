use Rattle.o32_model.proofs.SeeingQuiet.{machine_call_quiet}
use Rattle.o32_model.proofs.laws.a_seeing_call_that_fails_moves_nothing.Goals as goal

pub returns : goal.returns
returns c = λ seen kernel guest left is. machine_call_quiet seen kernel guest left is
