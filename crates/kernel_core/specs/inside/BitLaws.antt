-- Flags read again from the bits that they gave.
use Rattle.std.specs.Prelude.{◌≡◌, ℕ, zero, suc, ◌<◌, ◌/◌, ◌%◌, ◌≤◌, Bool, true, false, ◌==◌, refl}
use Rattle.std.proofs.Common.{arith, ap}
use Rattle.kernel_core.specs.Bits.{one_if, has}

pub one_if-le : (set : Bool) → one_if set ≤ 1
one_if-le true = omega arith
one_if-le false = omega arith

-- a bit that is 1 where a flag is set tells the flag
pub is_one : (set : Bool) (bit : ℕ) → bit ≡ one_if set → (bit == 1) ≡ set
is_one true bit is = rw is refl
is_one false bit is = rw is refl

one_if-one : (bit : ℕ) → bit < 2 → one_if (bit == 1) ≡ bit
one_if-one zero small = refl
one_if-one (suc zero) small = refl
one_if-one (suc (suc more)) small = absurd (omega (arith, small))

-- a bit is 1 where a number has it
pub one_if-has : (number bit : ℕ) → one_if (has number bit) ≡ number / bit % 2
one_if-has number bit = one_if-one (number / bit % 2) (omega arith)

pub has_below : (number end bit : ℕ) → number % end / bit % 2 ≡ number / bit % 2 → has (number % end) bit ≡ has number bit
has_below number end bit same = ap (λ value. value == 1) same
