use Rattle.soak_program.proofs.Counting.{length-instructions}
use Rattle.soak_program.proofs.instructions.one_turn_each.Goals as goal

pub returns : goal.returns
returns c = length-instructions
