use Rattle.std.proofs.Common.{◌≡◌, ◌++◌, map, length}
use Rattle.directory_names.specs.Names.{AreNames, plain}
use Rattle.native_vfs.proofs.trees.SavedLists.{above}
use Rattle.native_vfs.proofs.saving.saved_entries.Given as goal

-- what is read and what lies above the cookie are all
abbrev pub invariant-loop-entry : goal.invariant-loop-entry
invariant-loop-entry l = (l.entries.items ++ map plain (above l.cookie l.names.entries) ≡ map plain l.names.entries) × AreNames l.names

abbrev pub decreases-loop-entry : goal.decreases-loop-entry
decreases-loop-entry l = length (above l.cookie l.names.entries)
