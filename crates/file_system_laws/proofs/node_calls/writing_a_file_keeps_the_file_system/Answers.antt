use Rattle.file_system_laws.proofs.NodeLaws.{write_keeps}
use Rattle.file_system_laws.proofs.node_calls.writing_a_file_keeps_the_file_system.Goals as goal

pub returns : goal.returns
returns c = λ nodes number at content bytes now is there time may few. write_keeps nodes number content is there at bytes now time may few
