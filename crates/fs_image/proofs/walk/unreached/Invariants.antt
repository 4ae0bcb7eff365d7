use Rattle.std.proofs.Common.{◌+◌, length}
use Rattle.std.specs.HashSet.{hash_set_len}
use Rattle.fs_image.proofs.Spreading.{Walked}
use Rattle.fs_image.proofs.walk.unreached.Given as goal

abbrev pub invariant-loop-number : goal.invariant-loop-number
invariant-loop-number l = Walked l.nodes l.unreached l.stack.items

abbrev pub decreases-loop-number : goal.decreases-loop-number
decreases-loop-number l = hash_set_len l.unreached + length l.stack.items
