use Rattle.std.proofs.Common.{◌+◌, List, [], ◌∷◌, ◌++◌, map, sym, ap, ◌∙◌}
use Rattle.std.specs.FinMap.{entries}
use Rattle.kernel_core.specs.declared.tree.Block.{Block}
use Rattle.file_blocks.proofs.Uses.{kept_below}
use Rattle.native_vfs.specs.inside.Saving.{block_of}
use Rattle.native_vfs.proofs.trees.SavedLists.{blocks-none, blocks-next, blocks-all}
use Rattle.native_vfs.proofs.saving.saved_blocks.Goals as goal

pub loop-index-init : goal.loop-index-init
loop-index-init c = c.new-blocks.ensures.items ∙ sym (blocks-none c.args.content.now.blocks)

pub loop-index-preserved : goal.loop-index-preserved
loop-index-preserved c =
    c.in_ok-push.ensures.items
    ∙ ap (λ (bs : List Block). bs ++ record { index = c.in-Some.index; bytes = c.in_ok-bytes.bytes } ∷ []) c.loop-index.invariant
    ∙ ap (λ bytes. map block_of (entries (kept_below c.args.content.now.blocks c.loop-index.from)) ++ record { index = c.in-Some.index; bytes = bytes } ∷ []) c.in_ok-bytes.ensures
    ∙ sym (blocks-next c.args.content.now.blocks c.loop-index.from c.in-Some.index c.in-Some.bytes.now c.in-Some.ensures.found)
    ∙ ap (λ n. map block_of (entries (kept_below c.args.content.now.blocks (n + 1)))) (sym c.from-from.ensures)

pub returns : goal.returns
returns c = c.loop-index.invariant ∙ blocks-all c.args.content.now.blocks c.loop-index.from c.in_default.ensures.none
