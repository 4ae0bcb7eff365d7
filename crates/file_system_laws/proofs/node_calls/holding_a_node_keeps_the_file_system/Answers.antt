use Rattle.file_system_laws.proofs.NodeLaws.{hold_keeps}
use Rattle.file_system_laws.proofs.node_calls.holding_a_node_keeps_the_file_system.Goals as goal

pub returns : goal.returns
returns c = hold_keeps
