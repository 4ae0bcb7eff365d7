use Rattle.std.proofs.Common.{sym, ap, ◌∙◌, subst, refl}
use Rattle.std.specs.Option.{IsSome}
use Rattle.std.specs.FinMap.{len}
use Rattle.kernel_core.specs.FileContent.{with_zero_tail}
use Rattle.file_blocks.specs.inside.Extents.{AreExtents, blocks_in}
use Rattle.file_blocks.proofs.StoreLaws.{cleared}
use Rattle.file_blocks.proofs.extent_list.ExtentList.clear_from.Goals as goal

pub returns-in_default-clause-cleared : goal.returns-in_default-clause-cleared
returns-in_default-clause-cleared c = ap (λ o. with_zero_tail (blocks_in c.args.self.now) c.args.index o c.args.place) (sym c.in_default.ensures.none)

pub clear_at-requires-clause-there : goal.clear_at-requires-clause-there
clear_at-requires-clause-there c = subst IsSome (sym c.in-Some.ensures.found.last.there) refl

pub returns-clause-valid : goal.returns-clause-valid
returns-clause-valid c = subst AreExtents (sym c.clear_at.ensures) (cleared _ _ _ _ c.requires.valid c.in-Some.ensures.found c.args.place).0

pub returns-clause-cleared : goal.returns-clause-cleared
returns-clause-cleared c = ap blocks_in c.clear_at.ensures ∙ (cleared _ _ _ _ c.requires.valid c.in-Some.ensures.found c.args.place).1

pub returns-clause-count : goal.returns-clause-count
returns-clause-count c = ap (λ m. len (blocks_in m)) c.clear_at.ensures ∙ (cleared _ _ _ _ c.requires.valid c.in-Some.ensures.found c.args.place).2
