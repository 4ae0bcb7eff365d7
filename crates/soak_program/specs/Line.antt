-- The line that tells what a run of the soak program came to, and what it comes to by count. This project's own.
use Rattle.std.specs.Prelude.{ℕ, ◌+◌, ◌*◌, ◌%◌, ◌^◌, List, [], ◌∷◌, codes, sum}
use Rattle.std.specs.List.{concat}
use Rattle.std.specs.Fmt.{decimal}
use Rattle.soak_program.specs.Numbers.{numbers}
use Rattle.trace_text.specs.Digits.{word}
use Rattle.trace_text.specs.Trace.{newline}

-- the count of numbers, the turns of the run, and the bytes and the last sum in the file; the sum in eight hexadecimal digits
unfoldable pub soak_line : ℕ → ℕ → ℕ → ℕ → List ℕ
soak_line count turns bytes sum =
    concat (
    codes "soak "
    ∷ decimal count
    ∷ codes ": exited 0, turns "
    ∷ decimal turns
    ∷ codes ", bytes "
    ∷ decimal bytes
    ∷ codes ", sum "
    ∷ word sum
    ∷ newline
    ∷ [])

-- each instruction takes one turn
abbrev pub turns_of : ℕ → ℕ
turns_of count = 10 + 9 * count

-- four for each number
abbrev pub bytes_of : ℕ → ℕ
bytes_of count = 4 * count

abbrev pub sum_of : ℕ → ℕ
sum_of count = sum (numbers count) % 2 ^ 32
