use Rattle.kernel_laws.proofs.OpenRowsKept.{change_directory_keeps, change_to_open_keeps}
use Rattle.kernel_laws.proofs.nodes.changing_the_directory_keeps_files.Goals as goal

pub returns : goal.returns
returns c = record {
  change_directory = λ files path is. (change_directory_keeps files is path).kept;
  change_to_open = λ files fd is. (change_to_open_keeps files is fd).kept;
}
