use Rattle.native_calls.proofs.Left.{native_call_leaves}
use Rattle.native_calls.proofs.laws.sigaltstack_alone_is_refused_for_want_of_memory.Goals as goal

pub returns : goal.returns
returns c = λ number args kernel memory left. (native_call_leaves number args kernel memory left).lacking
