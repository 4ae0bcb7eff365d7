use Rattle.file_system_laws.proofs.NewNumbers.{new_number_is_new}
use Rattle.file_system_laws.proofs.new_numbers.the_number_of_a_new_node_is_a_function.Goals as goal

pub returns : goal.returns
returns c = new_number_is_new
