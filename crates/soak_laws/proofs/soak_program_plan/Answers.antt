use Rattle.soak_laws.proofs.Planned.{soak_planned}
use Rattle.soak_laws.proofs.soak_program_plan.Goals as goal

pub returns : goal.returns
returns c = soak_planned
