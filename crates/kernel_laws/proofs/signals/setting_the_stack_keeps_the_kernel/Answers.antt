use Rattle.kernel_laws.proofs.SignalsKept.{set_stack_keeps}
use Rattle.kernel_laws.proofs.signals.setting_the_stack_keeps_the_kernel.Goals as goal

pub returns : goal.returns
returns c = λ kernel sp stack is. (set_stack_keeps kernel is sp stack).kept
