use Rattle.std.proofs.Common.{◌≡◌, ◌++◌, drop}
use Rattle.o32_runner.specs.JournalText.{records_text}
use Rattle.o32_runner.proofs.records.add_records.Given as goal

-- the whole is what stands there, and the records to come
abbrev pub invariant-loop-entry : goal.invariant-loop-entry
invariant-loop-entry l =
    l.fn.text.items ++ records_text l.records
    ≡ l.text.items ++ records_text (drop l.entry-index l.records)
