use Rattle.std.proofs.Common.{ap, ◌∙◌, arith}
use Rattle.kernel_core.specs.FileContent.{FileContent}
use Rattle.std.specs.FinMap.{insert}
use Rattle.native_vfs.proofs.trees.LoadedLists.{resized-none, file-next, kept-next}
use Rattle.kernel_core.specs.FileContent.{resized}
use Rattle.native_vfs.proofs.loading.loaded_file.Goals as goal

pub loop-block-init : goal.loop-block-init
loop-block-init c = (
  c.set_size.ensures.value ∙ ap (λ (f : FileContent). resized f c.args.size) c.new-content.ensures.value ∙ resized-none c.args.size,
  (let fewer = c.set_size.ensures.fewer in let none = c.new-content.ensures.none_kept in omega (arith, fewer, none)),
)

pub loop-block-preserved : goal.loop-block-preserved
loop-block-preserved c =
    let adds = c.in_ok-load_block.ensures.ok ∙ ap (λ bytes. record c.loop-block.content { blocks = insert c.loop-block.content.blocks c.block-item.result.index bytes }) c.as_slice.ensures in (
      file-next c.args.size c.args.blocks.now c.loop-block.block-index c.block-item.result c.loop-block-test.true c.block-item.is c.requires.blocks
          c.loop-block.content c.load_block.new.self c.loop-block.invariant.0 adds,
      kept-next c.args.size c.args.blocks.now c.loop-block.block-index c.block-item.result c.loop-block-test.true c.block-item.is c.requires.blocks
          c.loop-block.content c.load_block.new.self c.loop-block.invariant.0 adds c.loop-block.invariant.1,
    )
