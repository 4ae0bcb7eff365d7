use Rattle.std.proofs.Common.{◌≡◌, ℕ, ◌+◌, take}
use Rattle.kernel_core.specs.ValidTree.{names_in}
use Rattle.fs_image.specs.inside.Walk.{count_of}
use Rattle.fs_image.proofs.walk.count_entries.Given as goal

abbrev pub invariant-loop-entry : goal.invariant-loop-entry
invariant-loop-entry l = (q : ℕ) → count_of l.counts q ≡ count_of l.fn.counts q + names_in (take l.entry-index l.entries) q
