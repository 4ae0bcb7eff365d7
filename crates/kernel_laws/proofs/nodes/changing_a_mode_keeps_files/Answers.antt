use Rattle.kernel_laws.proofs.NodesRowsKept.{change_mode_keeps, change_open_mode_keeps}
use Rattle.kernel_laws.proofs.nodes.changing_a_mode_keeps_files.Goals as goal

pub returns : goal.returns
returns c = record {
  change_mode = λ files now base path mode is time. (change_mode_keeps files is now time base path mode).kept;
  change_open_mode = λ files now fd mode is time. (change_open_mode_keeps files is now time fd mode).kept;
}
