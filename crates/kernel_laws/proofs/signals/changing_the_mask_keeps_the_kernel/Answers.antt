use Rattle.kernel_laws.proofs.SignalsKept.{change_mask_keeps}
use Rattle.kernel_laws.proofs.signals.changing_the_mask_keeps_the_kernel.Goals as goal

pub returns : goal.returns
returns c = λ kernel size how set is words. (change_mask_keeps kernel is size how set words).kept
