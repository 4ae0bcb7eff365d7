use Rattle.kernel_laws.proofs.OpenThingsKept.{set_close_on_exec_keeps}
use Rattle.kernel_laws.proofs.descriptors.setting_close_on_exec_keeps_files.Goals as goal

pub returns : goal.returns
returns c = λ files fd cloexec is. (set_close_on_exec_keeps files is fd cloexec).kept
