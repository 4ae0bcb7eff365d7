use Rattle.file_system_laws.proofs.HeldNodes.{symlink_keeps_holds}
use Rattle.file_system_laws.proofs.held_nodes.making_a_symbolic_link_keeps_holds.Goals as goal

pub returns : goal.returns
returns c = record {
  holds = λ nodes place number target now new. (symlink_keeps_holds nodes place number new now target).holds;
  kinds = λ nodes place number target now new. (symlink_keeps_holds nodes place number new now target).kinds;
}
