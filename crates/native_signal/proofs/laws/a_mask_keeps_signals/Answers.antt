use Rattle.native_signal.proofs.KeptLaws.{mask_blockable, mask_kept}
use Rattle.native_signal.proofs.laws.a_mask_keeps_signals.Goals as goal

pub returns-clause-mask : goal.returns-clause-mask
returns-clause-mask c = mask_blockable

pub returns-clause-signals : goal.returns-clause-signals
returns-clause-signals c = mask_kept
