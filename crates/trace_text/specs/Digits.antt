-- Numbers in a line: hexadecimal digits of a fixed length, in lower case, with zeros before them. This project's own.
use Rattle.std.specs.Prelude.{ℕ, ◌-◌, false, List, ◌++◌, length, replicate}
use Rattle.std.specs.Fmt.{digits}

-- `0`
abbrev pub zero_digit : ℕ
zero_digit = 48

abbrev pub with_zeros : ℕ → List ℕ → List ℕ
with_zeros width text = replicate (width - length text) zero_digit ++ text

-- the hexadecimal digits of a number, at least so many
abbrev pub hexadecimal : ℕ → ℕ → List ℕ
hexadecimal width number = with_zeros width (digits 16 false number)

-- a register or an argument of an o32 program
unfoldable pub word : ℕ → List ℕ
word number = hexadecimal 8 number

-- an argument of a native call
unfoldable pub long_word : ℕ → List ℕ
long_word number = hexadecimal 16 number
