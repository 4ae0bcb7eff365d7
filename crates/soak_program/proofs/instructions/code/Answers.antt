use Rattle.std.proofs.Common.{◌≡◌, ap, ◌∙◌, arith, length}
use Rattle.std.proofs.lemmas.Grind.{common_steps}
use Rattle.soak_program.specs.Instructions.{code_of, instructions}
use Rattle.soak_program.proofs.Counting.{length-code}
use Rattle.soak_program.proofs.instructions.code.Goals as goal

pub returns-clause-length : goal.returns-clause-length
returns-clause-length c =
    let whole : c.put-2.new.code.items ≡ code_of (instructions c.args.count) = grind (arith, common_steps) in
    ap length whole ∙ length-code c.args.count
