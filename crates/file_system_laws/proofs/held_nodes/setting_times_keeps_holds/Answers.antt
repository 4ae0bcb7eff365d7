use Rattle.file_system_laws.proofs.HeldNodes.{times_lose}
use Rattle.file_system_laws.proofs.held_nodes.setting_times_keeps_holds.Goals as goal

pub returns : goal.returns
returns c = record {
  holds = λ nodes number access modified now. (times_lose nodes number access modified now).holds;
  kinds = λ nodes number access modified now. λ other was live. (times_lose nodes number access modified now).kinds other live;
}
