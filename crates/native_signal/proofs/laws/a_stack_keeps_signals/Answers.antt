use Rattle.native_signal.proofs.KeptLaws.{stack_kept}
use Rattle.native_signal.proofs.laws.a_stack_keeps_signals.Goals as goal

pub returns : goal.returns
returns c = stack_kept
