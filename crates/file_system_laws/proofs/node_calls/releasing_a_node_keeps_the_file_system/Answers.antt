use Rattle.file_system_laws.proofs.NodeLaws.{release_keeps}
use Rattle.file_system_laws.proofs.node_calls.releasing_a_node_keeps_the_file_system.Goals as goal

pub returns : goal.returns
returns c = release_keeps
