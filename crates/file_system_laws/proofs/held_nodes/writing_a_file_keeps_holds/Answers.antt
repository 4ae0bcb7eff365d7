use Rattle.file_system_laws.proofs.HeldNodes.{write_loses}
use Rattle.file_system_laws.proofs.held_nodes.writing_a_file_keeps_holds.Goals as goal

pub returns : goal.returns
returns c = record {
  holds = λ nodes number at bytes now. (write_loses nodes number at bytes now).holds;
  kinds = λ nodes number at bytes now. λ other was live. (write_loses nodes number at bytes now).kinds other live;
}
