use Rattle.file_system_laws.proofs.HeldNodes.{link_loses}
use Rattle.file_system_laws.proofs.held_nodes.linking_a_node_keeps_holds.Goals as goal

pub returns : goal.returns
returns c = record {
  holds = λ nodes node place now. (link_loses nodes place node now).holds;
  kinds = λ nodes node place now. λ other was live. (link_loses nodes place node now).kinds other live;
}
