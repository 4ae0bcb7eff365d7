-- By the lemma.
use Rattle.turn_records.proofs.Untouched.{untouched}
use Rattle.turn_records.proofs.unchanged.untouched_before_instruction.Goals as goal

pub returns : goal.returns
returns c = untouched
