use Rattle.kernel_laws.proofs.SignalsKept.{set_action_keeps}
use Rattle.kernel_laws.proofs.signals.setting_an_action_keeps_the_kernel.Goals as goal

pub returns : goal.returns
returns c = λ kernel size signal action is masked. (set_action_keeps kernel is size signal action masked).kept
