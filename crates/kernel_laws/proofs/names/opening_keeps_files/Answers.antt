use Rattle.kernel_laws.proofs.OpenRowsKept.{open_file_keeps}
use Rattle.kernel_laws.proofs.names.opening_keeps_files.Goals as goal

pub returns : goal.returns
returns c = λ files limit now base path flags mode is time text. (open_file_keeps files is now time limit base path text mode flags).kept
