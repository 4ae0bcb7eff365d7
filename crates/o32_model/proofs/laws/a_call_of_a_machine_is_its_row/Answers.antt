use Rattle.o32_model.proofs.SeeingQuiet.{machine_call_is}
use Rattle.o32_model.proofs.laws.a_call_of_a_machine_is_its_row.Goals as goal

pub returns : goal.returns
returns c = λ seen kernel guest left is. machine_call_is seen kernel guest left is
