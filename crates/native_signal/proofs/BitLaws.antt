-- The bits that say where something pends, as one list changes.
use Rattle.std.proofs.Common.{◌≡◌, ℕ, zero, suc, ◌+◌, ◌-◌, ◌*◌, ◌/◌, ◌%◌, ◌^◌, ◌<◌, ◌≤◌, false, List, [], ◌∷◌, length, get_or, set, refl, ap, ◌∙◌, arith, lit<}
use Rattle.std.specs.Int.{bit_at}
use Rattle.std.specs.Int.Bits.{or_add_and}
use Rattle.std.specs.Prelude.{bit_and, bit_or, if◌then◌else◌}
use Rattle.std.proofs.lemmas.Nat.{and_comm, and-not}
use Rattle.std.proofs.lemmas.Nat.Bits.{bit_at_lowest, bit_at-suc, and_pow}
use Rattle.std.proofs.Math.Nat.{pow-succ'}
use Rattle.std.proofs.Math.Pow.{pow_mono}
use Rattle.kernel_core.specs.NameCalls.{is_empty_list}
use Rattle.kernel_model.specs.Shared.{Info}
use Rattle.kernel_model.specs.SignalRows.{bits_of}

-- 1 where something pends
abbrev pub bit : List Info → ℕ
bit infos = if is_empty_list infos then 0 else 1

bit_small : (infos : List Info) → bit infos < 2
bit_small [] = lit< tt
bit_small (info ∷ infos) = lit< tt

pub bit_of_some : (infos : List Info) → is_empty_list infos ≡ false → bit infos ≡ 1
bit_of_some [] e = absurd cc
bit_of_some (info ∷ infos) e = refl

pub bits_small : (queues : List (List Info)) → bits_of queues < 2 ^ length queues
bits_small [] = lit< tt
bits_small (queue ∷ queues) = omega (arith, bit_small queue, bits_small queues, pow-succ' 2 (length queues))

pub bits_below : (n : ℕ) (queues : List (List Info)) → length queues ≤ n → bits_of queues < 2 ^ n
bits_below n queues few = omega (arith, bits_small queues, pow_mono {i = length queues} {j = n} few)

bit_at_bits : (queues : List (List Info)) (i : ℕ) → i < length queues → bit_at (bits_of queues) i ≡ bit (get_or queues i [])
bit_at_bits [] i inside = absurd (omega arith)
bit_at_bits (queue ∷ queues) zero inside =
    bit_at_lowest (bit queue + 2 * bits_of queues)
    ∙ (let small = bit_small queue in let e : (bit queue + 2 * bits_of queues) % 2 ≡ bit queue = omega (arith, small) in e)
bit_at_bits (queue ∷ queues) (suc i) inside =
    bit_at-suc (bit queue + 2 * bits_of queues) i
    ∙ ap (λ n. bit_at n i) (let small = bit_small queue in let e : (bit queue + 2 * bits_of queues) / 2 ≡ bits_of queues = omega (arith, small) in e)
    ∙ bit_at_bits queues i (omega arith)

pub bits-set : (queues : List (List Info)) (i : ℕ) (queue : List Info) → i < length queues
    → bits_of (set queues i queue) + bit (get_or queues i []) * 2 ^ i ≡ bits_of queues + bit queue * 2 ^ i
bits-set [] i queue inside = absurd (omega arith)
bits-set (first ∷ queues) zero queue inside = omega arith
bits-set (first ∷ queues) (suc i) queue inside =
    let more : bits_of (set queues i queue) + bit (get_or queues i []) * 2 ^ i ≡ bits_of queues + bit queue * 2 ^ i = bits-set queues i queue (omega arith) in
    rw (pow-succ' 2 i) (omega arith)

-- something pends there now
pub bits-marked : (queues : List (List Info)) (i : ℕ) (queue : List Info) → i < length queues → is_empty_list queue ≡ false
    → bits_of (set queues i queue) ≡ bit_or (bits_of queues) (2 ^ i)
bits-marked queues i queue inside some =
    let here : bit queue * 2 ^ i ≡ 1 * 2 ^ i = ap (λ n. n * 2 ^ i) (bit_of_some queue some) in
    let was : bit_and (bits_of queues) (2 ^ i) ≡ bit (get_or queues i []) * 2 ^ i = and_pow (bits_of queues) i ∙ ap (λ n. n * 2 ^ i) (bit_at_bits queues i inside) in
    omega (arith, here, was, bits-set queues i queue inside, or_add_and (bits_of queues) (2 ^ i))

-- nothing pends there now
pub bits-unmarked : (queues : List (List Info)) (i : ℕ) → i < length queues → length queues ≤ 32
    → bits_of (set queues i []) ≡ bit_and (bits_of queues) (2 ^ 32 - 1 - 2 ^ i)
bits-unmarked queues i inside few =
    let was : bit_and (2 ^ i) (bits_of queues) ≡ bit (get_or queues i []) * 2 ^ i
    = and_comm (2 ^ i) (bits_of queues) ∙ and_pow (bits_of queues) i ∙ ap (λ n. n * 2 ^ i) (bit_at_bits queues i inside) in
    let power : 2 ^ i ≤ 2 ^ 31 = pow_mono {i = i} {j = 31} (omega arith) in
    let without : bit_and (2 ^ 32 - 1 - 2 ^ i) (bits_of queues) + bit_and (2 ^ i) (bits_of queues) ≡ bits_of queues
    = and-not 32 (2 ^ i) (bits_of queues) (omega arith) (bits_below 32 queues few) in
    omega (arith, was, without, bits-set queues i [] inside, and_comm (2 ^ 32 - 1 - 2 ^ i) (bits_of queues))
