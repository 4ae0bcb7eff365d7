use Rattle.signal_sets.proofs.SameSets.{has-in_o32}
use Rattle.signal_sets.proofs.laws.a_set_is_that_of_an_o32_program.Goals as goal

pub returns : goal.returns
returns c = has-in_o32
