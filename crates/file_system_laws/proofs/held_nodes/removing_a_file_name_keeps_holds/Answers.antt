use Rattle.file_system_laws.proofs.HeldNodes.{unlink_loses}
use Rattle.file_system_laws.proofs.held_nodes.removing_a_file_name_keeps_holds.Goals as goal

pub returns : goal.returns
returns c = record {
  holds = λ nodes place node now. (unlink_loses nodes place node now).holds;
  kinds = λ nodes place node now. λ other was live. (unlink_loses nodes place node now).kinds other live;
}
