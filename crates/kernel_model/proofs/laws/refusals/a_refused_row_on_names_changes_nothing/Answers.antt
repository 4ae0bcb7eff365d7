use Rattle.kernel_model.proofs.refusals.NameRefusals.{open_file_stays, make_directory_stays, remove_name_stays, link_stays, make_link_stays, rename_stays, read_link_stays}
use Rattle.kernel_model.proofs.laws.refusals.a_refused_row_on_names_changes_nothing.Goals as goal

pub returns : goal.returns
returns c = record {
  open_file = open_file_stays;
  make_directory = make_directory_stays;
  remove_name = remove_name_stays;
  link = link_stays;
  make_link = make_link_stays;
  rename = rename_stays;
  read_link = read_link_stays;
}
