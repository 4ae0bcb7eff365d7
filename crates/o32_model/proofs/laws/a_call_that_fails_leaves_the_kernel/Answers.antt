use Rattle.o32_model.proofs.KernelKept.{o32_call_keeps}
use Rattle.o32_model.proofs.laws.a_call_that_fails_leaves_the_kernel.Goals as goal

pub returns : goal.returns
returns c = o32_call_keeps
