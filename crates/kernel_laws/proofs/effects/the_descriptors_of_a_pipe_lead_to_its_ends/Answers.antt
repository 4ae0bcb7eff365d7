use Rattle.kernel_laws.proofs.Led.{pipe_leads}
use Rattle.kernel_laws.proofs.effects.the_descriptors_of_a_pipe_lead_to_its_ends.Goals as goal

pub returns : goal.returns
returns c = pipe_leads
