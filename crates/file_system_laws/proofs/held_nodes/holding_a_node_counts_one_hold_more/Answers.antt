use Rattle.file_system_laws.proofs.HeldNodes.{hold_counts, hold_kinds}
use Rattle.file_system_laws.proofs.held_nodes.holding_a_node_counts_one_hold_more.Goals as goal

pub returns : goal.returns
returns c = record { holds = hold_counts; kinds = hold_kinds }
