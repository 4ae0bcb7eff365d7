use Rattle.std.proofs.Common.{◌≡◌, ℕ, ◌+◌, ◌<◌, ◌≤◌, get_or, pos, length}
use Rattle.layouts.specs.Number.{low_number}
use Rattle.signal_frames.proofs.reading.return_to.Given as goal

-- the registers so far are read, and register 0 is 0
abbrev pub invariant-loop-number : goal.invariant-loop-number
invariant-loop-number l =
    (length l.registers ≡ 32) × (get_or l.registers 0 0 ≡ 0)
    × ((k : ℕ) → 1 ≤ k → k < l.number → get_or l.registers k 0 ≡ low_number 4 (get_or l.context (k + 1) (pos 0)))
