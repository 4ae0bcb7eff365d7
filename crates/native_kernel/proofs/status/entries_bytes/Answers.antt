use Rattle.std.proofs.Common.{map}
use Rattle.std.specs.List.{flat_map}
use Rattle.native_calls.specs.Status.{entry_bytes}
use Rattle.native_files.specs.Answers.{entry_told}
use Rattle.native_kernel.proofs.EntryLemmas.{more_entries}
use Rattle.native_kernel.proofs.status.entries_bytes.Goals as goal

pub loop-entry-preserved : goal.loop-entry-preserved
loop-entry-preserved c =
    more_entries c.args.entries.now c.loop-entry.entry-index c.entry-item.result _ c.loop-entry.bytes.items c.push_entry.new.bytes.items (flat_map entry_bytes (map entry_told c.args.entries.now))
    c.entry-item.is c.in_ok-push_entry.ensures c.loop-entry-test.true c.loop-entry.invariant
