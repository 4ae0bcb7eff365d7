use Rattle.std.proofs.Common.{◌≡◌, ◌≤◌, take}
use Rattle.kernel_core.specs.FileContent.{kept_blocks}
use Rattle.native_vfs.proofs.trees.LoadedLists.{file_of}
use Rattle.native_vfs.proofs.loading.loaded_file.Given as goal

-- the blocks so far are kept
abbrev pub invariant-loop-block : goal.invariant-loop-block
invariant-loop-block l = (l.content ≡ file_of l.size (take l.block-index l.blocks)) × (kept_blocks l.content ≤ l.block-index)
