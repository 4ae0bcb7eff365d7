use Rattle.std.proofs.Common.{◌≡◌, ◌+◌, ◌≤◌, length}
use Rattle.std.specs.Prelude.{position, option_map}
use Rattle.schedule.specs.Grammar.{starts_event, first_event_line}
use Rattle.schedule.specs.Text.{lines_of, words_of}
use Rattle.schedule.proofs.first_event_line.Given as goal

-- the first event of the lines that are left is that of the text
abbrev pub invariant-loop-front : goal.invariant-loop-front
invariant-loop-front l =
    (option_map (λ place. place + l.line) (position (λ line. starts_event (words_of line)) (lines_of l.rest)) ≡ first_event_line l.fn.text)
    × (l.line + length l.rest ≤ length l.fn.text + 1)

abbrev pub decreases-loop-front : goal.decreases-loop-front
decreases-loop-front l = length l.rest
