use Rattle.std.proofs.Common.{take}
use Rattle.fs_image.specs.inside.Walk.{Spreads}
use Rattle.fs_image.proofs.walk.spread.Given as goal

abbrev pub invariant-loop-entry : goal.invariant-loop-entry
invariant-loop-entry l = Spreads (take l.entry-index l.entries) l.fn.unreached l.fn.stack.items l.unreached l.stack.items
