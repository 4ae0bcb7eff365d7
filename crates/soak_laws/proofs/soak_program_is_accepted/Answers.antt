use Rattle.soak_laws.proofs.Accepted.{soak_accepted}
use Rattle.soak_laws.proofs.soak_program_is_accepted.Goals as goal

pub returns : goal.returns
returns c = soak_accepted
