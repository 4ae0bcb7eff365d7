use Rattle.file_system_laws.proofs.HeldNodes.{live_on}
use Rattle.file_system_laws.proofs.held_nodes.a_held_node_lives_on.Goals as goal

pub returns : goal.returns
returns c = live_on
