-- What the computing instructions of MIPS32 Volume II compute, in whole numbers modulo 2^32.
use Rattle.std.specs.Prelude.{ℕ, ℤ, pos, negsuc, Bool, ◌+◌, ◌-◌, ◌*◌, ◌/◌, ◌%◌, ◌^◌, nat_lt, int_div, int_rem, if◌then◌else◌}
use Rattle.std.specs.Int.{w32, cast_signed, cast_unsigned}

-- the signed number that a word stands for in two's complement
abbrev pub signed : ℕ → ℤ
signed a = cast_signed w32 a

-- a signed number has a word of its own
abbrev pub fits_word : ℤ → Bool
fits_word (pos n) = nat_lt n (2 ^ 31)
fits_word (negsuc n) = nat_lt n (2 ^ 31)

-- the sum and the difference of two words
abbrev pub sum : ℕ → ℕ → ℕ
sum a b = (a + b) % 2 ^ 32

abbrev pub difference : ℕ → ℕ → ℕ
difference a b = (a + (2 ^ 32 - b)) % 2 ^ 32

-- whether a word is below another, both read as signed numbers
abbrev pub signed_less : ℕ → ℕ → Bool
signed_less a b = nat_lt ((a + 2 ^ 31) % 2 ^ 32) ((b + 2 ^ 31) % 2 ^ 32)

-- the complement of a word's bits
abbrev pub complement : ℕ → ℕ
complement a = 2 ^ 32 - 1 - a

-- the sign of the lowest 8 or 16 bits carried through the word, and that of a word through 64 bits
abbrev pub sign_extended_byte : ℕ → ℕ
sign_extended_byte a = let low = a % 2 ^ 8 in if nat_lt low (2 ^ 7) then low else low + (2 ^ 32 - 2 ^ 8)

abbrev pub sign_extended_half : ℕ → ℕ
sign_extended_half a = let low = a % 2 ^ 16 in if nat_lt low (2 ^ 15) then low else low + (2 ^ 32 - 2 ^ 16)

abbrev pub sign_extended_word : ℕ → ℕ
sign_extended_word a = if nat_lt a (2 ^ 31) then a else a + (2 ^ 64 - 2 ^ 32)

-- a word shifted right, its sign filling the upper bits, and a word rotated right
abbrev pub shifted_arithmetically : ℕ → ℕ → ℕ
shifted_arithmetically a s = if nat_lt a (2 ^ 31) then a / 2 ^ s else complement (complement a / 2 ^ s)

abbrev pub rotated : ℕ → ℕ → ℕ
rotated a s = (a * 2 ^ 32 + a) / 2 ^ s % 2 ^ 32

-- quotient and remainder of signed words, the quotient cut toward 0
abbrev pub signed_quotient : ℕ → ℕ → ℕ
signed_quotient a b = cast_unsigned w32 (int_div (signed a) (signed b))

abbrev pub signed_remainder : ℕ → ℕ → ℕ
signed_remainder a b = cast_unsigned w32 (int_rem (signed a) (signed b))

-- a word with the bytes of each half exchanged
abbrev pub halves_swapped : ℕ → ℕ
halves_swapped a = a / 2 ^ 16 % 2 ^ 8 * 2 ^ 24 + a / 2 ^ 24 * 2 ^ 16 + a % 2 ^ 8 * 2 ^ 8 + a / 2 ^ 8 % 2 ^ 8

-- the bits of a from `low` on, as many as `size`
abbrev pub extracted : ℕ → ℕ → ℕ → ℕ
extracted a low size = a / 2 ^ low % 2 ^ size

-- a word with its bits from `low` on, as many as `size`, replaced by the lowest bits of `a`
abbrev pub inserted : ℕ → ℕ → ℕ → ℕ → ℕ
inserted a low size word = word / 2 ^ (low + size) * 2 ^ (low + size) + a % 2 ^ size * 2 ^ low + word % 2 ^ low
