use Rattle.file_system_laws.proofs.Saving.{saved_valid}
use Rattle.file_system_laws.proofs.saved_trees.a_file_system_is_saved_as_a_valid_tree.Goals as goal

pub returns : goal.returns
returns c = saved_valid
