use Rattle.native_signal.proofs.KeptLaws.{first_kept}
use Rattle.native_signal.proofs.laws.the_first_signals_are_signals.Goals as goal

pub returns : goal.returns
returns c = first_kept
