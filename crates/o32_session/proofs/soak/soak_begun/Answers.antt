use Rattle.std.proofs.Common.{subst}
use Rattle.o32_turns.specs.Machine.{Machine}
use Rattle.o32_session.specs.Soaked.{GoesSoFar, stops_within}
use Rattle.session_files.specs.Inputs.{no_names}
use Rattle.o32_session.proofs.Keeping.{keeps_still}
use Rattle.o32_session.proofs.soak.soak_begun.Goals as goal

pub returns-in-Err-clause-stopped : goal.returns-in-Err-clause-stopped
returns-in-Err-clause-stopped c =
    stops_within c.in-Err.stopped.turns (subst (λ (m : Machine). GoesSoFar m c.in-Err.stopped.turns) c.requires.machine c.in-Err.ensures.stopped)

pub line_of_run-requires-clause-keeps : goal.line_of_run-requires-clause-keeps
line_of_run-requires-clause-keeps c = keeps_still no_names c.args.emulator c.run_to_end.new.emulator c.requires.keeps c.in-Ok.ensures.keeps
