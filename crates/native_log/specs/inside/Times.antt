-- Times that may not be there. (The form is this project's own.)
use Rattle.std.specs.Prelude.{ℕ, Bool, false, Option, Some, None, nat_le}

abbrev pub has_come : ℕ → Option ℕ → Bool
has_come clock None = false
has_come clock (Some time) = nat_le time clock
