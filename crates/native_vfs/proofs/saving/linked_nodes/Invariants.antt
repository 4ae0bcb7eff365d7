use Rattle.native_vfs.proofs.trees.SavedNodes.{IsReadFrom}
use Rattle.native_vfs.proofs.saving.linked_nodes.Given as goal

-- the map has the nodes with a link that are read, and the rest of the table is left
abbrev pub invariant-loop-key : goal.invariant-loop-key
invariant-loop-key l =
    (goal.iterator-loop-key).can_next l._key-iterator ×
    (goal.iterator-loop-key).is_finite l._key-iterator ×
    IsReadFrom l.table l.linked l._key-iterator
