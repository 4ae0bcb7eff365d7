use Rattle.kernel_model.proofs.Pigeons.{pipe_place}
use Rattle.kernel_model.proofs.laws.least_numbers.a_new_pipe_has_the_least_number.Goals as goal

pub returns : goal.returns
returns c = pipe_place
