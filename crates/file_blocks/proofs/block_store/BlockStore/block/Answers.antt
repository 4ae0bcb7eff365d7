use Rattle.std.proofs.Common.{sym, ap, ◌∙◌}
use Rattle.std.specs.FinMap.{get}
use Rattle.file_blocks.proofs.ExtentLaws.{get-blocks_in}
use Rattle.file_blocks.proofs.block_store.BlockStore.block.Goals as goal

pub returns : goal.returns
returns c =
    c.block.ensures
    ∙ sym (get-blocks_in c.self.inside.extents c.self.invariant.0 c.args.index)
    ∙ ap (λ m. get m c.args.index) c.self.view_is
