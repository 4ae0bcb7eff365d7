use Rattle.std.proofs.Common.{◌≡◌, ◌≤◌}
use Rattle.std.specs.FinMap.{len}
use Rattle.file_blocks.proofs.Cuts.{below}
use Rattle.file_blocks.proofs.walk.remove_past.Given as goal

abbrev pub invariant-loop-last : goal.invariant-loop-last
invariant-loop-last l = record {
  same : below l.fn.blocks l.size ≡ below l.blocks l.size;
  fewer : len l.blocks ≤ len l.fn.blocks;
}

abbrev pub decreases-loop-last : goal.decreases-loop-last
decreases-loop-last l = len l.blocks
