use Rattle.kernel_laws.proofs.NodesRowsKept.{truncate_keeps, truncate_open_keeps}
use Rattle.kernel_laws.proofs.nodes.changing_a_size_keeps_files.Goals as goal

pub returns : goal.returns
returns c = record {
  truncate = λ files now base path size is time. (truncate_keeps files is now time base path size).kept;
  truncate_open = λ files now fd size is time. (truncate_open_keeps files is now time fd size).kept;
}
