-- The numbers that the soak program writes. The program is this project's own.
use Rattle.std.specs.Prelude.{ℕ, zero, suc, ◌+◌, ◌*◌, ◌%◌, ◌^◌, List, [], ◌∷◌}

-- the number behind another: a linear congruential generator modulo 2^32, with the constants of Numerical Recipes, chapter 7
abbrev pub successor : ℕ → ℕ
successor number = (1664525 * number + 1013904223) % 2 ^ 32

-- so many numbers, from one on
abbrev pub numbers_from : ℕ → ℕ → List ℕ
numbers_from number zero = []
numbers_from number (suc count) = number ∷ numbers_from (successor number) count

-- the numbers of a program for so many of them: the first one is their count
unfoldable pub numbers : ℕ → List ℕ
numbers count = numbers_from count count
