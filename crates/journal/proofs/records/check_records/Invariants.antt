use Rattle.std.proofs.Common.{◌≡◌, ◌-◌}
use Rattle.journal.specs.Form.{none_before}
use Rattle.journal.specs.Reading.{records_at}
use Rattle.journal.specs.Meaning.{fault_in}
use Rattle.journal.proofs.records.check_records.Given as goal

-- what is left behind the records so far is bad where all of it is
abbrev pub invariant-loop : goal.invariant-loop
invariant-loop l = fault_in (records_at (l.file - l.counter) l.before l.file l.left) ≡ fault_in (records_at l.file none_before l.file l.rest)
