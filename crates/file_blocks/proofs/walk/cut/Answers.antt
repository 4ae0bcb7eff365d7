use Rattle.std.proofs.Common.{ap, ◌∙◌, refl, arith}
use Rattle.std.specs.FinMap.{len}
use Rattle.file_blocks.proofs.Cuts.{len-with_zero_tail, cut-even}
use Rattle.file_blocks.proofs.walk.cut.Goals as goal

pub returns-then-place-gt0-clause-fewer : goal.returns-then-place-gt0-clause-fewer
returns-then-place-gt0-clause-fewer c =
    let same = ap len c.clear_from.ensures ∙ len-with_zero_tail _ _ _ _ refl in
    omega (arith, same, c.remove_past.ensures.fewer)

pub returns-else-place-gt0-clause-value : goal.returns-else-place-gt0-clause-value
returns-else-place-gt0-clause-value c = c.remove_past.ensures.value ∙ cut-even c.args.blocks.now c.args.size (omega arith)
