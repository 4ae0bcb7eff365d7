use Rattle.file_system_laws.proofs.NodeLaws.{times_keep}
use Rattle.file_system_laws.proofs.node_calls.setting_times_keeps_the_file_system.Goals as goal

pub returns : goal.returns
returns c = λ nodes number access modified now is first second time. times_keep nodes number is access modified now first second time
