use Rattle.kernel_model.proofs.Pigeons.{description_place}
use Rattle.kernel_model.proofs.laws.least_numbers.a_new_description_has_the_least_number.Goals as goal

pub returns : goal.returns
returns c = description_place
