use Rattle.std.proofs.Common.{ℕ, List, nat_cmp, sym, ap, ◌∙◌, subst}
use Rattle.std.specs.FinMap.{len, len-empty}
use Rattle.file_blocks.specs.inside.Extents.{AreExtents, blocks_in}
use Rattle.file_blocks.proofs.StoreLaws.{no_extents, no_blocks}
use Rattle.file_blocks.proofs.block_store.BlockStore.new.Goals as goal

pub invariant_of-result : goal.invariant_of-result
invariant_of-result c =
    (subst AreExtents (sym c.new.ensures) no_extents, sym (ap (λ m. len (blocks_in m)) c.new.ensures ∙ ap len no_blocks ∙ len-empty nat_cmp (List ℕ)))

pub returns : goal.returns
returns c = ap blocks_in c.new.ensures ∙ no_blocks
