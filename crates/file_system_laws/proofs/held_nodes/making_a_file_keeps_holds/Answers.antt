use Rattle.file_system_laws.proofs.HeldNodes.{create_keeps_holds}
use Rattle.file_system_laws.proofs.held_nodes.making_a_file_keeps_holds.Goals as goal

pub returns : goal.returns
returns c = record {
  holds = λ nodes place number mode now new. (create_keeps_holds nodes place number new now mode).holds;
  kinds = λ nodes place number mode now new. (create_keeps_holds nodes place number new now mode).kinds;
}
