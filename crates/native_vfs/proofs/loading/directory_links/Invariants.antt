use Rattle.std.proofs.Common.{◌≡◌, take}
use Rattle.native_vfs.specs.inside.Loading.{directory_links}
use Rattle.native_vfs.proofs.loading.directory_links.Given as goal

-- the entries so far are counted
abbrev pub invariant-loop-entry : goal.invariant-loop-entry
invariant-loop-entry l = l.links ≡ directory_links l.table (take l.entry-index l.entries)
