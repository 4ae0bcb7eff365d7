-- Sets of flags as numbers.
use Rattle.std.specs.Prelude.{ℕ, Bool, ◌==◌, ◌&&◌, Option, Some, None, if◌then◌else◌}

-- what a number is read as, where that is listed and has the number for its own
abbrev pub stands_for : {A : Type 0} → (A → ℕ) → (A → Bool) → (ℕ → A) → ℕ → Option A
stands_for number_of is_listed read number =
    if number_of (read number) == number && is_listed (read number) then Some (read number) else None
