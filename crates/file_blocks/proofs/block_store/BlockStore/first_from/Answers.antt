use Rattle.std.proofs.Common.{sym, ap, ◌∙◌, subst, refl, arith}
use Rattle.std.specs.FinMap.{get}
use Rattle.file_blocks.specs.Kept.{NoneFrom, IsFirstFrom}
use Rattle.file_blocks.proofs.Neighbours.{in_none}
use Rattle.file_blocks.proofs.ExtentLaws.{there_not_none}
use Rattle.file_blocks.proofs.ExtentEnds.{first-here, first-next, first-none}
use Rattle.file_blocks.proofs.block_store.BlockStore.first_from.Goals as goal

pub returns-in-Some-clause-found : goal.returns-in-Some-clause-found
returns-in-Some-clause-found c = first-here _ _ _ (sym c.in-Some.ensures)

pub returns-in_err-first-clause-none : goal.returns-in_err-first-clause-none
returns-in_err-first-clause-none c =
    in_none _ (subst (λ m. NoneFrom m c.args.from) c.self.view_is
    (first-none _ c.args.from c.self.invariant.0 (ap (λ m. get m c.args.from) c.self.view_is ∙ sym c.in_default.ensures) c.in_err-first.ensures.none))

pub returns-clause-found : goal.returns-clause-found
returns-clause-found c =
    subst (λ m. IsFirstFrom m c.args.from c.in_ok-first.first c.in_ok-block.block.now) c.self.view_is
    (first-next _ c.args.from c.in_ok-first.first c.in_ok-first.extent.now c.in_ok-block.block.now c.self.invariant.0
    (ap (λ m. get m c.args.from) c.self.view_is ∙ sym c.in_default.ensures) c.in_ok-first.ensures.found (sym c.in_ok-block.ensures))
