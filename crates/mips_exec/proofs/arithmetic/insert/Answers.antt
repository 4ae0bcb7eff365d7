use Rattle.std.proofs.Common.{arith}
use Rattle.std.proofs.lemmas.Grind.{common_steps}
use Rattle.mips_exec.proofs.Inserting.{inserted_below}
use Rattle.mips_exec.proofs.arithmetic.insert.Goals as goal

pub overflow_cast-result-2 : goal.overflow_cast-result-2
overflow_cast-result-2 c = grind (arith, common_steps, inserted_below)
