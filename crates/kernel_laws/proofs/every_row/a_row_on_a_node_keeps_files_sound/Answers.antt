use Rattle.kernel_laws.proofs.EndsKept.{access_ends, change_directory_ends, change_mode_ends, change_open_mode_ends, change_to_open_ends, set_times_ends, set_umask_ends, status_at_path_ends, truncate_ends, truncate_open_ends, working_directory_ends}
use Rattle.kernel_laws.proofs.NodesRowsKept.{change_mode_keeps, change_open_mode_keeps, set_times_keeps, truncate_keeps, truncate_open_keeps}
use Rattle.kernel_laws.proofs.OpenRowsKept.{change_directory_keeps, change_to_open_keeps}
use Rattle.kernel_laws.proofs.OpenThingsKept.{access_keeps, set_umask_keeps, status_at_path_keeps, working_directory_keeps}
use Rattle.kernel_laws.proofs.every_row.a_row_on_a_node_keeps_files_sound.Goals as goal

pub returns : goal.returns
returns c = record {
  status_at_path = λ files base path flags is. record { always = (status_at_path_keeps files is.always base path flags).kept; ends = (status_at_path_ends files is.ends base path flags).kept };
  access = λ files base path mode is. record { always = (access_keeps files is.always base path mode).kept; ends = (access_ends files is.ends base path mode).kept };
  change_mode = λ files now base path mode is time. record { always = (change_mode_keeps files is.always now time base path mode).kept; ends = (change_mode_ends files is.ends now base path mode).kept };
  change_open_mode = λ files now fd mode is time. record { always = (change_open_mode_keeps files is.always now time fd mode).kept; ends = (change_open_mode_ends files is.ends now fd mode).kept };
  set_times = λ files now base path times follow is time fits. record { always = (set_times_keeps files is.always now time times fits base path follow).kept; ends = (set_times_ends files is.ends now base path times follow).kept };
  truncate = λ files now base path size is time. record { always = (truncate_keeps files is.always now time base path size).kept; ends = (truncate_ends files is.ends now base path size).kept };
  truncate_open = λ files now fd size is time. record { always = (truncate_open_keeps files is.always now time fd size).kept; ends = (truncate_open_ends files is.ends now fd size).kept };
  change_directory = λ files path is. record { always = (change_directory_keeps files is.always path).kept; ends = (change_directory_ends files is.ends path).kept };
  change_to_open = λ files fd is. record { always = (change_to_open_keeps files is.always fd).kept; ends = (change_to_open_ends files is.ends fd).kept };
  working_directory = λ files size is. record { always = (working_directory_keeps files is.always size).kept; ends = (working_directory_ends files is.ends size).kept };
  set_umask = λ files umask is. record { always = (set_umask_keeps files is.always umask).kept; ends = (set_umask_ends files is.ends umask).kept };
}
