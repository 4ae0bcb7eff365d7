use Rattle.kernel_core.specs.Queries.{new_number}
use Rattle.file_system_laws.proofs.NewNumbers.{new_number_is_new, new_number-below}
use Rattle.file_system_laws.proofs.new_numbers.a_new_node_has_a_number.Goals as goal

pub returns : goal.returns
returns c = λ nodes is free. let new = new_number_is_new nodes in (new_number nodes, new, new_number-below nodes is free (new_number nodes) new)
