-- Single flags in a number.
use Rattle.std.specs.Prelude.{ℕ, ◌/◌, ◌%◌, Bool, true, false, ◌==◌}

-- 1 where a flag is set, and else 0
abbrev pub one_if : Bool → ℕ
one_if true = 1
one_if false = 0

-- whether a number has this bit, a power of two
abbrev pub has : ℕ → ℕ → Bool
has number bit = number / bit % 2 == 1
