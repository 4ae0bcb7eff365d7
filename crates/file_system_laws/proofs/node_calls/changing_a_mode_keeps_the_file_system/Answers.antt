use Rattle.file_system_laws.proofs.NodeLaws.{mode_keeps}
use Rattle.file_system_laws.proofs.node_calls.changing_a_mode_keeps_the_file_system.Goals as goal

pub returns : goal.returns
returns c = λ nodes number mode now is small time. mode_keeps nodes number is mode now small time
