use Rattle.o32_model.proofs.PartsSend.{o32_call_sends_nothing}
use Rattle.o32_model.proofs.laws.a_call_that_stores_in_parts_sends_nothing.Goals as goal

pub returns : goal.returns
returns c = λ kernel guest left is. o32_call_sends_nothing kernel guest left is
