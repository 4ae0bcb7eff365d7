use Rattle.file_system_laws.proofs.Loading.{loaded_is_file_system}
use Rattle.file_system_laws.proofs.loaded_trees.a_valid_tree_is_loaded_as_a_file_system.Goals as goal

pub returns : goal.returns
returns c = loaded_is_file_system
