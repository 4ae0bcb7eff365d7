use Rattle.kernel_laws.proofs.EndsKept.{link_ends, make_directory_ends, make_link_ends, read_link_ends, remove_name_ends, rename_ends}
use Rattle.kernel_laws.proofs.NamesKept.{link_row_keeps, make_directory_keeps, make_link_keeps, remove_name_keeps, rename_keeps}
use Rattle.kernel_laws.proofs.OpenRowsKept.{open_file_ends, open_file_keeps}
use Rattle.kernel_laws.proofs.OpenThingsKept.{read_link_keeps}
use Rattle.kernel_laws.proofs.every_row.a_row_on_names_keeps_files_sound.Goals as goal

pub returns : goal.returns
returns c = record {
  open_file = λ files limit now base path flags mode is time text. record { always = (open_file_keeps files is.always now time limit base path text mode flags).kept; ends = (open_file_ends files is.always now time limit base path text mode is.ends flags).kept };
  make_directory = λ files now base path mode is time text. record { always = (make_directory_keeps files is.always now time base path text mode).kept; ends = (make_directory_ends files is.ends now base path mode).kept };
  remove_name = λ files now base path directory is time text. record { always = (remove_name_keeps files is.always now time base path text directory).kept; ends = (remove_name_ends files is.ends now base path directory).kept };
  link = λ files now old_base old_path new_base new_path follow is time old_text new_text. record { always = (link_row_keeps files is.always now time old_base old_path old_text new_base new_path new_text follow).kept; ends = (link_ends files is.ends now old_base old_path new_base new_path follow).kept };
  make_link = λ files now target base path is time short text. record { always = (make_link_keeps files is.always now time base path text target short).kept; ends = (make_link_ends files is.ends now target base path).kept };
  rename = λ files now old_base old_path new_base new_path is time old_text new_text. record { always = (rename_keeps files is.always now time old_base old_path old_text new_base new_path new_text).kept; ends = (rename_ends files is.ends now old_base old_path new_base new_path).kept };
  read_link = λ files base path size is. record { always = (read_link_keeps files is.always base path size).kept; ends = (read_link_ends files is.ends base path size).kept };
}
