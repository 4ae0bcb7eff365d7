use Rattle.std.proofs.Common.{◌≡◌, ◌-◌, []}
use Rattle.fs_image.specs.inside.Names.{AreNames}
use Rattle.fs_image.specs.Reading.{entry_at, many}
use Rattle.fs_image.proofs.directories.entries_at.Given as goal

-- what is left, behind the entries so far, reads as all of it does, and the names are theirs
abbrev pub invariant-loop : goal.invariant-loop
invariant-loop l = record {
  reads : many entry_at (l.count - l.counter) l.entries.items l.file l.left ≡ many entry_at l.count [] l.file l.rest;
  names : AreNames l.names l.entries.items;
}
