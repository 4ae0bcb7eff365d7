use Rattle.std.proofs.Common.{rules, sym, ◌∙◌}
use Rattle.file_blocks.proofs.ExtentLaws.{at-none, at-last}
use Rattle.file_blocks.proofs.extent_list.ExtentList.block.Goals as goal

pub returns-in_err-first : goal.returns-in_err-first
returns-in_err-first c = search (rules, sym (at-none _ _ c.in_err-first.ensures.none))

pub returns : goal.returns
returns c = c.block.ensures ∙ sym (at-last _ _ _ _ c.in_ok-first.ensures.found)
