use Rattle.file_system_laws.proofs.NewNumbers.{one_new_number}
use Rattle.file_system_laws.proofs.new_numbers.a_new_node_has_one_number.Goals as goal

pub returns : goal.returns
returns c = one_new_number
