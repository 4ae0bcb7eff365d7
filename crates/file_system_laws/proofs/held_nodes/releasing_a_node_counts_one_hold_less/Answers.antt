use Rattle.file_system_laws.proofs.HeldNodes.{release_counts, release_kinds}
use Rattle.file_system_laws.proofs.held_nodes.releasing_a_node_counts_one_hold_less.Goals as goal

pub returns : goal.returns
returns c = record { holds = release_counts; kinds = release_kinds }
