use Rattle.kernel_model.proofs.LeastFree.{least_free}
use Rattle.kernel_model.proofs.laws.least_numbers.a_new_descriptor_is_the_least.Goals as goal

pub returns : goal.returns
returns c = least_free
