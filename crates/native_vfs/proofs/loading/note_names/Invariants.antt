use Rattle.std.proofs.Common.{take}
use Rattle.kernel_core.specs.ValidTree.{names_in}
use Rattle.native_vfs.specs.inside.Loading.{Notes}
use Rattle.native_vfs.proofs.loading.note_names.Given as goal

-- the entries so far are noted
abbrev pub invariant-loop-entry : goal.invariant-loop-entry
invariant-loop-entry l = Notes l.initial.namings l.namings l.namer (names_in (take l.entry-index l.entries))
