use Rattle.file_system_laws.proofs.Making.{link_keeps}
use Rattle.file_system_laws.proofs.making_calls.linking_a_node_keeps_the_file_system.Goals as goal

pub returns : goal.returns
returns c = λ nodes node inode place now is agrees free there time. link_keeps nodes node place now inode is agrees free there time
