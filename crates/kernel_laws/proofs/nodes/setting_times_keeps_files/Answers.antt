use Rattle.kernel_laws.proofs.NodesRowsKept.{set_times_keeps}
use Rattle.kernel_laws.proofs.nodes.setting_times_keeps_files.Goals as goal

pub returns : goal.returns
returns c = λ files now base path times follow is time fits. (set_times_keeps files is now time times fits base path follow).kept
