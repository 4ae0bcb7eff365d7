use Rattle.kernel_laws.proofs.NamesKept.{remove_name_keeps}
use Rattle.kernel_laws.proofs.names.removing_a_name_keeps_files.Goals as goal

pub returns : goal.returns
returns c = λ files now base path directory is time text. (remove_name_keeps files is now time base path text directory).kept
