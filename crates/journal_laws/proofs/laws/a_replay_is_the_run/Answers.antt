-- Turn by turn.
use Rattle.journal_laws.proofs.Runs.{ends_with, run_repeated}
use Rattle.journal_laws.proofs.laws.a_replay_is_the_run.Goals as goal

pub returns : goal.returns
returns c = record {
  repeated = λ quantum budget k machine left finish records awake signals recorded. run_repeated quantum machine left budget k finish records awake signals recorded;
  last = λ quantum budget k machine left finish records recorded. ends_with quantum budget k machine left finish records recorded;
}
