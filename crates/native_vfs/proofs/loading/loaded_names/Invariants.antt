use Rattle.std.proofs.Common.{take}
use Rattle.directory_names.specs.Names.{AreNames}
use Rattle.native_vfs.specs.inside.Loading.{AreLoadedNames}
use Rattle.native_vfs.proofs.loading.loaded_names.Given as goal

-- the entries so far are there
abbrev pub invariant-loop-entry : goal.invariant-loop-entry
invariant-loop-entry l = AreLoadedNames l.places (take l.entry-index l.entries) l.names × AreNames l.names
