use Rattle.file_system_laws.proofs.HeldNodes.{mode_loses}
use Rattle.file_system_laws.proofs.held_nodes.changing_a_mode_keeps_holds.Goals as goal

pub returns : goal.returns
returns c = record {
  holds = λ nodes number mode now. (mode_loses nodes number mode now).holds;
  kinds = λ nodes number mode now. λ other was live. (mode_loses nodes number mode now).kinds other live;
}
