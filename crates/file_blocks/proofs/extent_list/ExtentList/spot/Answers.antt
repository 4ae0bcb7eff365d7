use Rattle.std.proofs.Common.{◌-◌, ◌∙◌, arith}
use Rattle.std.proofs.lemmas.Option.{slice_get_past}
use Rattle.file_blocks.proofs.Neighbours.{in_none}
use Rattle.file_blocks.proofs.ExtentLaws.{at-none, at-last}
use Rattle.file_blocks.proofs.extent_list.ExtentList.spot.Goals as goal

pub returns-in_err-first-clause-none : goal.returns-in_err-first-clause-none
returns-in_err-first-clause-none c = in_none _ (at-none _ _ c.in_err-first.ensures.none)

pub returns-else-number-len-clause-none : goal.returns-else-number-len-clause-none
returns-else-number-len-clause-none c = at-last _ _ _ _ c.in_ok-first.ensures.found ∙ slice_get_past c.in_ok-first.extent.now (c.args.index - c.in_ok-first.first) (omega (arith, c.if-number-len.false, c.len.ensures))
