use Rattle.o32_session.specs.Soaked.{stops_unbegun}
use Rattle.o32_session.proofs.soak.soak.Goals as goal

pub returns-in-Err-clause-stopped : goal.returns-in-Err-clause-stopped
returns-in-Err-clause-stopped c = stops_unbegun
