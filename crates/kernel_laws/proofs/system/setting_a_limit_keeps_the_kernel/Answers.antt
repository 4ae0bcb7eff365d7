use Rattle.kernel_laws.proofs.OtherKept.{set_limit_keeps}
use Rattle.kernel_laws.proofs.system.setting_a_limit_keeps_the_kernel.Goals as goal

pub returns : goal.returns
returns c = λ kernel pid resource limit is fits. (set_limit_keeps kernel is pid resource limit fits).kept
