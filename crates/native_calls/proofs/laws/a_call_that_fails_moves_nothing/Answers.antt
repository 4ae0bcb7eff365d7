use Rattle.native_calls.proofs.Kept.{native_call_keeps}
use Rattle.native_calls.proofs.laws.a_call_that_fails_moves_nothing.Goals as goal

pub returns : goal.returns
returns c = record {
  moved = λ number args kernel memory left. (native_call_keeps number args kernel memory left).quiet;
  streams = λ number args kernel memory left. (native_call_keeps number args kernel memory left).still;
}
