use Rattle.std.proofs.Common.{◌+◌, sym, ap, ◌∙◌, subst, arith}
use Rattle.std.specs.Option.{IsSome}
use Rattle.std.specs.FinMap.{remove}
use Rattle.file_blocks.specs.Kept.{NoneFrom}
use Rattle.file_blocks.proofs.StoreLaws.{seen_at}
use Rattle.file_blocks.proofs.block_store.BlockStore.remove_last.Goals as goal

pub remove_last-requires-clause-valid : goal.remove_last-requires-clause-valid
remove_last-requires-clause-valid c = c.self.invariant.0

pub remove_last-requires-clause-kept : goal.remove_last-requires-clause-kept
remove_last-requires-clause-kept c = subst IsSome (sym (seen_at _ _ c.args.last c.self.invariant.0 c.self.view_is)) c.requires.kept

pub remove_last-requires-clause-last : goal.remove_last-requires-clause-last
remove_last-requires-clause-last c = subst (λ m. NoneFrom m (c.args.last + 1)) (sym c.self.view_is) c.requires.greatest

pub invariant_of-self : goal.invariant_of-self
invariant_of-self c = (c.remove_last.ensures.valid, omega (arith, c.self.invariant.1, c.remove_last.ensures.fewer))

pub returns : goal.returns
returns c = c.remove_last.ensures.removed ∙ ap (λ m. remove m c.args.last) c.self.view_is
