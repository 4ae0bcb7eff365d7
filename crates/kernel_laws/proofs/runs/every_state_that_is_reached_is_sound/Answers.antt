use Rattle.kernel_laws.proofs.FirstState.{first_state_sound}
use Rattle.kernel_laws.proofs.RunsKept.{reached_is}
use Rattle.kernel_model.specs.Begin.{first_state}
use Rattle.kernel_laws.proofs.runs.every_state_that_is_reached_is_sound.Goals as goal

pub returns : goal.returns
returns c = record {
  begun = λ tree settings kernel valid some bytes run. reached_is (first_state tree settings) kernel (first_state_sound tree settings valid some bytes) run;
  from_there = reached_is;
}
