use Rattle.std.proofs.Common.{◌≡◌, ◌+◌, length, drop}
use Rattle.std.specs.List.{flat_map}
use Rattle.fs_image.specs.Text.{entry_text}
use Rattle.fs_image.specs.Naming.{lost_entry}
use Rattle.fs_image.proofs.naming.lost_entry.Given as goal

-- what is left fails where all of it does, and ends where all of it ends
abbrev pub invariant-loop-entry : goal.invariant-loop-entry
invariant-loop-entry l = record {
  same : lost_entry l.nodes l.place (drop l.entry-index l.entries) ≡ lost_entry l.nodes l.fn.start l.fn.entries;
  end : l.place + length (flat_map entry_text (drop l.entry-index l.entries)) ≡ l.fn.start + length (flat_map entry_text l.fn.entries);
}
