use Rattle.file_system_laws.proofs.HeldNodes.{resize_loses}
use Rattle.file_system_laws.proofs.held_nodes.resizing_a_file_keeps_holds.Goals as goal

pub returns : goal.returns
returns c = record {
  holds = λ nodes number size now. (resize_loses nodes number size now).holds;
  kinds = λ nodes number size now. λ other was live. (resize_loses nodes number size now).kinds other live;
}
