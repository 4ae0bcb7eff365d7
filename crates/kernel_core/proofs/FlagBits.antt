-- A flag of a `bitflags` type is a bit of its number.
use Rattle.std.specs.Prelude.{◌≡◌, ℕ, zero, suc, ◌*◌, ◌^◌, ◌<◌, ◌==◌}
use Rattle.std.specs.Int.RustNames.{bit_and}
use Rattle.std.specs.Int.{bit_at}
use Rattle.std.proofs.Common.{arith}
use Rattle.std.proofs.lemmas.Bool.{eq-eqb, ne_eqb}
use Rattle.std.proofs.lemmas.Nat.{pow_pos}
use Rattle.std.proofs.lemmas.Nat.Bits.{and_pow}
use Rattle.kernel_core.specs.Bits.{has}

one_of : (bit power : ℕ) → bit < 2 → 0 < power → (bit * power == power) ≡ (bit == 1)
one_of zero power small some = ne_eqb (0 * power) power (λ e. omega (arith, some, e))
one_of (suc zero) power small some = eq-eqb (1 * power) power (omega arith)
one_of (suc (suc more)) power small some = absurd (omega (arith, small))

-- the test that `contains` makes of one flag
and_has : (number place : ℕ) → (bit_and number (2 ^ place) == 2 ^ place) ≡ has number (2 ^ place)
and_has number place = rw (and_pow number place) (one_of (bit_at number place) (2 ^ place) (omega arith) (pow_pos place))

pub and_1 : (number : ℕ) → (bit_and number 1 == 1) ≡ has number 1
and_1 number = and_has number 0

pub and_2 : (number : ℕ) → (bit_and number 2 == 2) ≡ has number 2
and_2 number = and_has number 1

pub and_4 : (number : ℕ) → (bit_and number 4 == 4) ≡ has number 4
and_4 number = and_has number 2

pub and_8 : (number : ℕ) → (bit_and number 8 == 8) ≡ has number 8
and_8 number = and_has number 3

pub and_16 : (number : ℕ) → (bit_and number 16 == 16) ≡ has number 16
and_16 number = and_has number 4

pub and_32 : (number : ℕ) → (bit_and number 32 == 32) ≡ has number 32
and_32 number = and_has number 5

pub and_64 : (number : ℕ) → (bit_and number 64 == 64) ≡ has number 64
and_64 number = and_has number 6

pub and_128 : (number : ℕ) → (bit_and number 128 == 128) ≡ has number 128
and_128 number = and_has number 7

pub and_256 : (number : ℕ) → (bit_and number 256 == 256) ≡ has number 256
and_256 number = and_has number 8

pub and_512 : (number : ℕ) → (bit_and number 512 == 512) ≡ has number 512
and_512 number = and_has number 9

pub and_1024 : (number : ℕ) → (bit_and number 1024 == 1024) ≡ has number 1024
and_1024 number = and_has number 10

pub and_2048 : (number : ℕ) → (bit_and number 2048 == 2048) ≡ has number 2048
and_2048 number = and_has number 11

pub ruleset one_flag = (and_1, and_2, and_4, and_8, and_16, and_32, and_64, and_128, and_256, and_512, and_1024, and_2048)
