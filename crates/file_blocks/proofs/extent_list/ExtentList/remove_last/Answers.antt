use Rattle.std.proofs.Common.{◌+◌, sym, ap, ◌∙◌, subst}
use Rattle.std.specs.FinMap.{len}
use Rattle.file_blocks.specs.inside.Extents.{AreExtents, blocks_in}
use Rattle.file_blocks.proofs.StoreLaws.{shortened, gone}
use Rattle.file_blocks.proofs.extent_list.ExtentList.remove_last.Goals as goal

pub returns-then-spot-eq0-clause-valid : goal.returns-then-spot-eq0-clause-valid
returns-then-spot-eq0-clause-valid c = subst AreExtents (sym c.remove.ensures) (gone _ _ _ _ c.requires.valid c.in-Some.ensures.found c.requires.last c.if-spot-eq0.true).0

pub returns-then-spot-eq0-clause-removed : goal.returns-then-spot-eq0-clause-removed
returns-then-spot-eq0-clause-removed c = ap blocks_in c.remove.ensures ∙ (gone _ _ _ _ c.requires.valid c.in-Some.ensures.found c.requires.last c.if-spot-eq0.true).1

pub returns-then-spot-eq0-clause-fewer : goal.returns-then-spot-eq0-clause-fewer
returns-then-spot-eq0-clause-fewer c = ap (λ m. len (blocks_in m) + 1) c.remove.ensures ∙ (gone _ _ _ _ c.requires.valid c.in-Some.ensures.found c.requires.last c.if-spot-eq0.true).2

pub returns-clause-valid : goal.returns-clause-valid
returns-clause-valid c = subst AreExtents (sym c.shorten.ensures) (shortened _ _ _ _ c.requires.valid c.in-Some.ensures.found c.requires.last c.if-spot-eq0.false).0

pub returns-clause-removed : goal.returns-clause-removed
returns-clause-removed c = ap blocks_in c.shorten.ensures ∙ (shortened _ _ _ _ c.requires.valid c.in-Some.ensures.found c.requires.last c.if-spot-eq0.false).1

pub returns-clause-fewer : goal.returns-clause-fewer
returns-clause-fewer c = ap (λ m. len (blocks_in m) + 1) c.shorten.ensures ∙ (shortened _ _ _ _ c.requires.valid c.in-Some.ensures.found c.requires.last c.if-spot-eq0.false).2
