use Rattle.std.proofs.Common.{◌≡◌, ◌-◌, map, string_bytes}
use Rattle.journal.specs.Reading.{text_at, many}
use Rattle.journal.proofs.Loops.{with_before}
use Rattle.journal.proofs.parsing.texts_at.Given as goal

-- what is left, behind the texts so far, reads as all of it does
abbrev pub invariant-loop : goal.invariant-loop
invariant-loop l = with_before (map string_bytes l.texts.items) (many text_at (l.count - l.counter) l.file l.left) ≡ many text_at l.count l.file l.rest
