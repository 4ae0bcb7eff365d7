use Rattle.kernel_laws.proofs.FirstState.{first_state_is, first_state_sound}
use Rattle.kernel_laws.proofs.beginning.the_first_state_is_a_kernel.Goals as goal

pub returns : goal.returns
returns c = record { kernel = first_state_is; sound = first_state_sound }
