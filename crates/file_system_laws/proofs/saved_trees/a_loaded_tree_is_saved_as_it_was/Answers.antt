use Rattle.file_system_laws.proofs.RoundTrip.{saved_again}
use Rattle.file_system_laws.proofs.saved_trees.a_loaded_tree_is_saved_as_it_was.Goals as goal

pub returns : goal.returns
returns c = saved_again
