use Rattle.file_system_laws.proofs.NodeLaws.{resize_keeps}
use Rattle.file_system_laws.proofs.node_calls.resizing_a_file_keeps_the_file_system.Goals as goal

pub returns : goal.returns
returns c = λ nodes number size content now is there time may few. resize_keeps nodes number content is there size now time may few
