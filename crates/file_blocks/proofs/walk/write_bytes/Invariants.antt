use Rattle.std.proofs.Common.{◌≡◌, ◌≤◌, ◌+◌, ◌-◌, length, take}
use Rattle.std.specs.FinMap.{len}
use Rattle.kernel_core.specs.FileContent.{with_bytes, longest_write}
use Rattle.file_blocks.proofs.walk.write_bytes.Given as goal

abbrev pub invariant-loop-done : goal.invariant-loop-done
invariant-loop-done l = record {
  within : l.done ≤ length l.bytes;
  written : l.blocks ≡ with_bytes l.fn.blocks l.at (take l.done l.bytes);
  reach : longest_write l.fn.blocks l.at (length l.bytes) l.spare ≡ l.done + longest_write l.blocks (l.at + l.done) (length l.bytes - l.done) l.left;
  kept : len l.blocks + l.left ≤ len l.fn.blocks + l.spare;
  few : l.left ≤ l.spare;
}

abbrev pub decreases-loop-done : goal.decreases-loop-done
decreases-loop-done l = length l.bytes - l.done
