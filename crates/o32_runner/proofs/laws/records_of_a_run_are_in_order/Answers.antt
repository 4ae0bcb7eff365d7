-- Turn by turn.
use Rattle.o32_runner.proofs.RecordForms.{are_records}
use Rattle.o32_runner.proofs.laws.records_of_a_run_are_in_order.Goals as goal

pub returns : goal.returns
returns c = λ quantum budget k machine left finish records few small recorded. are_records quantum machine left budget k finish records few small recorded
