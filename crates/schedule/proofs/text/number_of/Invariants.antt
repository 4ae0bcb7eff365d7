use Rattle.std.proofs.Common.{◌≡◌, ◌-◌, ◌≤◌, ◌^◌, min, drop}
use Rattle.schedule.specs.Text.{number_after}
use Rattle.schedule.proofs.text.number_of.Given as goal

-- what is read, with the digits that are left, says the number of the word
abbrev pub invariant-loop-digit : goal.invariant-loop-digit
invariant-loop-digit l =
    (min (number_after l.number (drop l.digit-index l.word)) (2 ^ 64 - 1) ≡ min (number_after 0 l.word) (2 ^ 64 - 1))
    × (l.number ≤ 2 ^ 64 - 1)
