use Rattle.std.proofs.Common.{subst}
use Rattle.file_blocks.specs.inside.Extents.{IsNextFrom, NoneNextFrom}
use Rattle.file_blocks.proofs.Neighbours.{in_none, none_from, next_from}
use Rattle.file_blocks.proofs.extent_list.ExtentList.from.Goals as goal

pub returns-in_err-first-clause-none : goal.returns-in_err-first-clause-none
returns-in_err-first-clause-none c =
    in_none _ (subst (λ m. NoneNextFrom m c.args.index) c.self.view_is (none_from c.self.inside.extents _ _ (c.range.ensures.in_range tt) c.in_err-first.ensures.steps.0))

pub returns-clause-found : goal.returns-clause-found
returns-clause-found c =
    subst (λ m. IsNextFrom m c.args.index c.in_ok-first.field-0-0.now c.in_ok-first.extent.now) c.self.view_is
    (next_from c.self.inside.extents _ _ _ _ _ (c.range.ensures.in_range tt) c.in_ok-first.ensures.steps)
