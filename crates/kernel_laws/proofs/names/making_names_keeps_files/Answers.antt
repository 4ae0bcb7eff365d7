use Rattle.kernel_laws.proofs.NamesKept.{link_row_keeps, make_directory_keeps, make_link_keeps}
use Rattle.kernel_laws.proofs.names.making_names_keeps_files.Goals as goal

pub returns : goal.returns
returns c = record {
  make_directory = λ files now base path mode is time text. (make_directory_keeps files is now time base path text mode).kept;
  link = λ files now old_base old_path new_base new_path follow is time old_text new_text. (link_row_keeps files is now time old_base old_path old_text new_base new_path new_text follow).kept;
  make_link = λ files now target base path is time short text. (make_link_keeps files is now time base path text target short).kept;
}
