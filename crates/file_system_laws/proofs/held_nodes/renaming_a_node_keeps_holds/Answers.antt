use Rattle.file_system_laws.proofs.HeldNodes.{rename_loses}
use Rattle.file_system_laws.proofs.held_nodes.renaming_a_node_keeps_holds.Goals as goal

pub returns : goal.returns
returns c = record {
  holds = λ nodes from to moved now. (rename_loses nodes from to moved now).holds;
  kinds = λ nodes from to moved now. λ other was live. (rename_loses nodes from to moved now).kinds other live;
}
