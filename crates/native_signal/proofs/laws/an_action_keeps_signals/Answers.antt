use Rattle.native_signal.proofs.KeptLaws.{action_kept}
use Rattle.native_signal.proofs.laws.an_action_keeps_signals.Goals as goal

pub returns : goal.returns
returns c = action_kept
