use Rattle.file_system_laws.proofs.Saving.{saved_iff_reached}
use Rattle.file_system_laws.proofs.saved_trees.the_nodes_that_are_reached_are_saved.Goals as goal

pub returns : goal.returns
returns c = saved_iff_reached
