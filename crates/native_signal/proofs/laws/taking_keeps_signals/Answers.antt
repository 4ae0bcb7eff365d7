use Rattle.native_signal.proofs.KeptLaws.{take_kept}
use Rattle.native_signal.proofs.laws.taking_keeps_signals.Goals as goal

pub returns : goal.returns
returns c = take_kept
