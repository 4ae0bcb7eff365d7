use Rattle.kernel_model.proofs.refusals.NodeRefusals.{status_at_path_stays, access_stays, change_mode_stays, change_open_mode_stays, set_times_stays, truncate_stays, truncate_open_stays, change_directory_stays, change_to_open_stays, working_directory_stays, set_umask_stays}
use Rattle.kernel_model.proofs.laws.refusals.a_refused_row_on_a_node_changes_nothing.Goals as goal

pub returns : goal.returns
returns c = record {
  status_at_path = status_at_path_stays;
  access = access_stays;
  change_mode = change_mode_stays;
  change_open_mode = change_open_mode_stays;
  set_times = set_times_stays;
  truncate = truncate_stays;
  truncate_open = truncate_open_stays;
  change_directory = change_directory_stays;
  change_to_open = change_to_open_stays;
  working_directory = working_directory_stays;
  set_umask = set_umask_stays;
}
