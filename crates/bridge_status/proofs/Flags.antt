-- The flags of fstatat(2): both worlds find the same ones unlisted.
use Rattle.std.proofs.Common.{◌≡◌, ℕ, zero, suc, ◌+◌, ◌*◌, ◌/◌, ◌%◌, ◌<◌, ◌^◌, min, [], ◌∷◌, refl, ap, ◌∙◌, arith}
use Rattle.std.proofs.lemmas.Nat.{and_block, and_comm}
use Rattle.std.specs.Int.Bits.{and_step, and_zero_l}
use Rattle.std.specs.Prelude.{◌==◌, bit_and, sum_by}
use Rattle.kernel_core.specs.Bits.{has, one_if}
use Rattle.native_calls.specs.Flags.{are_listed}
use Rattle.bridge_status.specs.inside.StatusCalls.{is_listed}

and_zero : (m : ℕ) → bit_and m 0 ≡ 0
and_zero m = and_comm m 0 ∙ and_zero_l m

-- the bits of 25, one by one
and_25 : (m : ℕ) → bit_and m 25 ≡ m % 2 + m / 8 % 2 * 8 + m / 16 % 2 * 16
and_25 m =
    let s0 : bit_and m 25 ≡ bit_and (m / 2) 12 * 2 + min (m % 2) 1 = and_step m 25 in
    let s1 : bit_and (m / 2) 12 ≡ bit_and (m / 2 / 2) 6 * 2 + min (m / 2 % 2) 0 = and_step (m / 2) 12 in
    let s2 : bit_and (m / 2 / 2) 6 ≡ bit_and (m / 2 / 2 / 2) 3 * 2 + min (m / 2 / 2 % 2) 0 = and_step (m / 2 / 2) 6 in
    let s3 : bit_and (m / 2 / 2 / 2) 3 ≡ bit_and (m / 2 / 2 / 2 / 2) 1 * 2 + min (m / 2 / 2 / 2 % 2) 1 = and_step (m / 2 / 2 / 2) 3 in
    let s4 : bit_and (m / 2 / 2 / 2 / 2) 1 ≡ bit_and (m / 2 / 2 / 2 / 2 / 2) 0 * 2 + min (m / 2 / 2 / 2 / 2 % 2) 1 = and_step (m / 2 / 2 / 2 / 2) 1 in
    let s5 : bit_and (m / 2 / 2 / 2 / 2 / 2) 0 ≡ 0 = and_zero (m / 2 / 2 / 2 / 2 / 2) in
    omega (arith, s0, s1, s2, s3, s4, s5)

split : (n : ℕ) → n ≡ n / 256 * 2 ^ 8 + n % 256
split n = omega arith

and_flags : (n : ℕ) → bit_and n 0x1900 ≡ n / 256 % 2 * 256 + n / 2048 % 2 * 2048 + n / 4096 % 2 * 4096
and_flags n =
    let whole : bit_and n 0x1900 ≡ bit_and (n / 256) 25 * 2 ^ 8 + bit_and (n % 256) 0 =
    ap (λ (m : ℕ). bit_and m 0x1900) (split n) ∙ and_block 8 (n / 256) 25 (n % 256) 0 (omega arith) (omega arith) in
    omega (arith, whole, and_25 (n / 256), and_zero (n % 256))

one_bit : (b : ℕ) → b < 2 → one_if (b == 1) ≡ b
one_bit zero small = refl
one_bit (suc zero) small = refl
one_bit (suc (suc more)) small = absurd (omega arith)

bit_of : (n bit : ℕ) → one_if (has n bit) ≡ n / bit % 2
bit_of n bit = one_bit (n / bit % 2) (omega arith)

flags_sum : (n : ℕ) → sum_by (λ flag. flag * one_if (has n flag)) (0x100 ∷ 0x800 ∷ 0x1000 ∷ []) ≡ bit_and n 0x1900
flags_sum n = omega (arith, bit_of n 0x100, bit_of n 0x800, bit_of n 0x1000, and_flags n)

pub listed_alike : (n : ℕ) → are_listed (0x100 ∷ 0x800 ∷ 0x1000 ∷ []) n ≡ is_listed n
listed_alike n = ap (λ (m : ℕ). m == n) (flags_sum n)
