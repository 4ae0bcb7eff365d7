use Rattle.file_system_laws.proofs.Saving.{linked_iff_reached}
use Rattle.file_system_laws.proofs.saved_trees.a_node_with_a_link_is_reached_by_names.Goals as goal

pub returns : goal.returns
returns c = linked_iff_reached
