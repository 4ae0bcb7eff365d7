use Rattle.native_calls.proofs.Left.{native_call_leaves}
use Rattle.native_calls.proofs.laws.a_call_that_waits_leaves_the_kernel.Goals as goal

pub returns : goal.returns
returns c = record {
  stays = λ number args kernel memory left wake. (native_call_leaves number args kernel memory left).waiting wake;
  partly = λ number args kernel memory left wake. (native_call_leaves number args kernel memory left).partly wake;
}
