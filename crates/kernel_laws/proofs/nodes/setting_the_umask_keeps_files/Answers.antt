use Rattle.kernel_laws.proofs.OpenThingsKept.{set_umask_keeps}
use Rattle.kernel_laws.proofs.nodes.setting_the_umask_keeps_files.Goals as goal

pub returns : goal.returns
returns c = λ files umask is. (set_umask_keeps files is umask).kept
