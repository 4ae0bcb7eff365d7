use Rattle.kernel_laws.proofs.OpenThingsKept.{entries_keeps}
use Rattle.kernel_laws.proofs.contents.giving_entries_keeps_files.Goals as goal

pub returns : goal.returns
returns c = λ files fd records size room is. (entries_keeps files is fd records size room).kept
