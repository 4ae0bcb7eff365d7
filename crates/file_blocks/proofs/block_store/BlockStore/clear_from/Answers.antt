use Rattle.std.proofs.Common.{sym, ◌∙◌}
use Rattle.kernel_core.specs.FileContent.{with_zero_tail}
use Rattle.file_blocks.proofs.StoreLaws.{seen_at}
use Rattle.file_blocks.proofs.block_store.BlockStore.clear_from.Goals as goal

pub clear_from-requires-clause-valid : goal.clear_from-requires-clause-valid
clear_from-requires-clause-valid c = c.self.invariant.0

pub invariant_of-self : goal.invariant_of-self
invariant_of-self c = (c.clear_from.ensures.valid, c.self.invariant.1 ∙ sym c.clear_from.ensures.count)

pub returns : goal.returns
returns c =
    let seen = seen_at _ _ c.args.index c.self.invariant.0 c.self.view_is in
    c.clear_from.ensures.cleared ∙ (λ i. with_zero_tail (c.self.view_is i) c.args.index (seen i) c.args.place)
