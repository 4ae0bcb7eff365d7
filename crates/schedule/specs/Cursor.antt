-- The event at the cursor, and the cursor behind it.
use Rattle.std.specs.Prelude.{ℕ, ◌+◌, nat_le, if◌then◌else◌, Option, None, Some}
use Rattle.schedule.specs.declared.events.Due.{Due}

-- an event that has come by now
abbrev pub due_at : ℕ → Option Due → Option Due
due_at now None = None
due_at now (Some due) = if nat_le due.time now then Some due else None

-- the cursor after an answer: behind an event that was given, else where it stood
abbrev pub place_after : Option Due → ℕ → ℕ
place_after None at = at
place_after (Some due) at = at + 1
