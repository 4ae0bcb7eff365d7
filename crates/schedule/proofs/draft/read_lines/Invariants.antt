use Rattle.std.proofs.Common.{◌≡◌, ◌+◌, ◌≤◌, length}
use Rattle.schedule.specs.inside.Draft.{empty, with_lines}
use Rattle.schedule.specs.Text.{lines_of}
use Rattle.schedule.proofs.draft.read_lines.Given as goal

-- the lines that are left, behind what is read, mean what all lines mean; a line's number is at most one more than the bytes before it
abbrev pub invariant-loop-front : goal.invariant-loop-front
invariant-loop-front l =
    (with_lines (lines_of l.rest) l.draft l.line ≡ with_lines (lines_of l.fn.text) empty 1)
    × (l.line + length l.rest ≤ length l.fn.text + 1)

abbrev pub decreases-loop-front : goal.decreases-loop-front
decreases-loop-front l = length l.rest
