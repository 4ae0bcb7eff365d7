-- A loader accepts the program, and its plan.
use Rattle.soak_laws.proofs.Accepted.{soak_accepted}
use Rattle.soak_laws.proofs.Planned.{soak_planned}

pub ruleset accepted = (soak_accepted, soak_planned)
