-- Counts of faults, which never fall. This project's own.
use Rattle.std.specs.Prelude.{ℕ, ◌+◌, ◌-◌, ◌^◌, ◌≤◌, min}

-- the last value of a count, at which it stays
abbrev pub last_count : ℕ
last_count = 2 ^ 64 - 1

-- the number that follows, up to the last one
abbrev pub next_count : ℕ → ℕ
next_count n = min (n + 1) last_count

-- the count rose between two moments: it is greater at the second, or stands at its last value there
abbrev pub Rose : ℕ → ℕ → Type 0
Rose before now = next_count before ≤ now
