use Rattle.std.proofs.Common.{◌≡◌, ◌++◌, drop, map}
use Rattle.std.specs.List.{flat_map}
use Rattle.native_calls.specs.Status.{entry_bytes}
use Rattle.native_files.specs.Answers.{entry_told}
use Rattle.native_kernel.proofs.status.entries_bytes.Given as goal

-- with those of the entries to come, the bytes so far are all
abbrev pub invariant-loop-entry : goal.invariant-loop-entry
invariant-loop-entry l = l.bytes.items ++ flat_map entry_bytes (map entry_told (drop l.entry-index l.entries)) ≡ flat_map entry_bytes (map entry_told l.entries)
