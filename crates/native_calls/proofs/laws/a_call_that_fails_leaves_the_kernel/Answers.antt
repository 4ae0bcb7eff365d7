use Rattle.native_calls.proofs.Left.{native_call_leaves}
use Rattle.native_calls.proofs.laws.a_call_that_fails_leaves_the_kernel.Goals as goal

pub returns : goal.returns
returns c = λ number args kernel memory left. (native_call_leaves number args kernel memory left).failed
