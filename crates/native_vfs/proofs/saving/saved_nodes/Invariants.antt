use Rattle.std.proofs.Common.{◌≡◌, ◌++◌, map, All}
use Rattle.native_vfs.specs.inside.Saving.{saved_of, HasTime}
use Rattle.native_vfs.proofs.saving.saved_nodes.Given as goal

-- the nodes so far and those that are left are all
abbrev pub invariant-loop-number : goal.invariant-loop-number
invariant-loop-number l =
    (goal.iterator-loop-number).can_next l.number-iterator ×
    (goal.iterator-loop-number).is_finite l.number-iterator ×
    (l.nodes.items ++ map saved_of l.number-iterator ≡ map saved_of l.linked.entries) ×
    All HasTime l.number-iterator
