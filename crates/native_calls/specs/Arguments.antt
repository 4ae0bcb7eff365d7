-- What a call is handed: six numbers of 64 bits (syscall(2)). An argument of a shorter type is the low bits of its number
-- (Linux include/linux/syscalls.h).
use Rattle.std.specs.Prelude.{ℕ, ◌%◌, ◌^◌, ℤ, List, slice_index}
use Rattle.std.specs.Int.{w32, w64, cast_signed}

-- a length, a number of entries or an address (size_t, unsigned long, a pointer)
abbrev pub argument : List ℕ → ℕ → ℕ
argument arguments place = slice_index arguments place

-- The low 32 bits: of a number of 64 bits, and so of an argument of 32 bits of which the bits alone count, as a descriptor, a command or
-- flags (unsigned int). A descriptor below 0 is then one from 2^31 on, which is never open.

abbrev pub low_word : ℕ → ℕ
low_word number = number % 2 ^ 32

abbrev pub word : List ℕ → ℕ → ℕ
word arguments place = low_word (argument arguments place)

-- a place in a file, which may be below 0 (loff_t)
abbrev pub offset : List ℕ → ℕ → ℤ
offset arguments place = cast_signed w64 (argument arguments place)

-- an argument of 32 bits that may be below 0 (int, pid_t)
abbrev pub signed_word : List ℕ → ℕ → ℤ
signed_word arguments place = cast_signed w32 (word arguments place)
