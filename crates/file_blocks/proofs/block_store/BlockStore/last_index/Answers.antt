use Rattle.std.proofs.Common.{◌≡◌, ◌+◌, ◌-◌, ap, subst, arith}
use Rattle.std.specs.Option.{IsSome}
use Rattle.std.specs.FinMap.{get}
use Rattle.file_blocks.specs.Kept.{NoneFrom}
use Rattle.file_blocks.proofs.Neighbours.{in_none}
use Rattle.file_blocks.proofs.ExtentEnds.{last-kept, last-greatest, none-kept}
use Rattle.file_blocks.proofs.block_store.BlockStore.last_index.Goals as goal

pub returns-in_err-first-clause-none : goal.returns-in_err-first-clause-none
returns-in_err-first-clause-none c = in_none _ (subst (λ m. NoneFrom m 0) c.self.view_is (none-kept _ c.self.invariant.0 c.in_err-first.ensures.none))

pub returns-clause-kept : goal.returns-clause-kept
returns-clause-kept c =
    let is = c.in_ok-first.ensures.found in
    subst (λ m. IsSome (get m (c.in_ok-first.first + c.len.result - 1))) c.self.view_is (last-kept _ _ _ _ c.self.invariant.0 is (omega (arith, c.len.ensures)))

pub returns-clause-greatest : goal.returns-clause-greatest
returns-clause-greatest c =
    let is = c.in_ok-first.ensures.found in
    subst (λ m. NoneFrom m (c.in_ok-first.first + c.len.result - 1 + 1)) c.self.view_is (last-greatest _ _ _ _ c.self.invariant.0 is (omega (arith, c.len.ensures)))
