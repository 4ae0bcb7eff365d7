-- The records of a journal that are left, of which the first is read ahead.
use Rattle.std.specs.Prelude.{List, [], ◌∷◌, All, Option, Some, None}
use Rattle.journal.specs.Form.{IsRecord}
use Rattle.journal.specs.Seen.{record_seen}
use Rattle.journal.specs.declared.records.ReadRecord.{ReadRecord}
use Rattle.kernel_core.specs.declared.record.Record.{Record}
use Rattle.replay_core.specs.declared.coming.Coming.TheInside as coming

abbrev pub with_next : Option ReadRecord → List Record → List Record
with_next None left = []
with_next (Some entry) left = record_seen entry ∷ left

abbrev pub records_left : coming.Inside → List Record
records_left c = with_next c.next c.left

-- each is of its form
abbrev pub AreFormed : coming.Inside → Type 0
AreFormed c = All IsRecord (with_next c.next c.left)
