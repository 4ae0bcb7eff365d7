-- The bits of a word in another order.
use Rattle.std.proofs.Common.{◌≡◌, ℕ, zero, suc, ◌+◌, ◌*◌, ◌/◌, ◌%◌, ◌^◌, ◌<◌, ◌≤◌, List, [], ◌∷◌, ◌++◌, length, take, get_or, ap, ◌∙◌, arith, lit<}
use Rattle.std.specs.Int.{bit_at}
use Rattle.std.proofs.lemmas.List.{take_more, length-take, length-take-le}
use Rattle.std.proofs.lemmas.Nat.Bits.{bit_at_lowest, bit_at-suc, bit_at-lt}
use Rattle.std.proofs.Math.Pow.{pow_mono}
use Rattle.std.proofs.Math.Nat.{pow-succ'}
use Rattle.signal_sets.specs.inside.Gathered.{gathered}

gathered-push : (word : ℕ) (places : List ℕ) (place : ℕ) → gathered word (places ++ place ∷ []) ≡ gathered word places + bit_at word place * 2 ^ length places
gathered-push word [] place = omega arith
gathered-push word (first ∷ places) place =
    let more : gathered word (places ++ place ∷ []) ≡ gathered word places + bit_at word place * 2 ^ length places = gathered-push word places place in
    rw (pow-succ' 2 (length places)) (omega arith)

pub gathered-more : (word : ℕ) (places : List ℕ) (k : ℕ) → k < length places
    → gathered word (take (k + 1) places) ≡ gathered word (take k places) + bit_at word (get_or places k 0) * 2 ^ k
gathered-more word places k inside =
    ap (gathered word) (take_more places k 0 inside)
    ∙ gathered-push word (take k places) (get_or places k 0)
    ∙ ap (λ n. gathered word (take k places) + bit_at word (get_or places k 0) * 2 ^ n) (length-take-le k places (omega arith))

pub gathered_small : (word : ℕ) (places : List ℕ) → gathered word places < 2 ^ length places
gathered_small word [] = lit< tt
gathered_small word (place ∷ places) = omega (arith, bit_at-lt word place, gathered_small word places, pow-succ' 2 (length places))

pub bit_at-gathered : (word : ℕ) (places : List ℕ) (i : ℕ) → i < length places → bit_at (gathered word places) i ≡ bit_at word (get_or places i 0)
bit_at-gathered word [] i inside = absurd (omega arith)
bit_at-gathered word (place ∷ places) zero inside =
    let small : bit_at word place < 2 = bit_at-lt word place in
    let e : (bit_at word place + 2 * gathered word places) % 2 ≡ bit_at word place = omega arith in
    bit_at_lowest (bit_at word place + 2 * gathered word places) ∙ e
bit_at-gathered word (place ∷ places) (suc i) inside =
    let small : bit_at word place < 2 = bit_at-lt word place in
    let e : (bit_at word place + 2 * gathered word places) / 2 ≡ gathered word places = omega arith in
    bit_at-suc (bit_at word place + 2 * gathered word places) i
    ∙ ap (λ n. bit_at n i) e
    ∙ bit_at-gathered word places i (omega arith)

-- One more bit, in a word of 32 bits

times_bit : (b n : ℕ) → b < 2 → b * n ≤ n
times_bit zero n small = omega arith
times_bit (suc zero) n small = omega arith
times_bit (suc (suc b)) n small = absurd (omega arith)

module _ (word : ℕ) (places : List ℕ) (k bits : ℕ) (count : length places ≡ 31) (inside : k < 31) (are : bits ≡ gathered word (take k places)) where
  bits_small : bits < 2 ^ k
  bits_small =
      let few : gathered word (take k places) < 2 ^ length (take k places) = gathered_small word (take k places) in
      let long : length (take k places) ≡ k = length-take-le k places (omega arith) in
      omega (arith, are, few, ap (λ (n : ℕ). 2 ^ n) long)

  bit_small : bit_at word (get_or places k 0) * 2 ^ k ≤ 2 ^ k
  bit_small = times_bit (bit_at word (get_or places k 0)) (2 ^ k) (bit_at-lt word (get_or places k 0))

  power_small : 2 ^ k ≤ 1073741824
  power_small = pow_mono {i = k} {j = 30} (omega arith)

  pub more_small : bits + bit_at word (get_or places k 0) * 2 ^ k % 4294967296 < 2 ^ 32
  more_small = omega (arith, bits_small, bit_small, power_small)

  pub more_gathered : bits + bit_at word (get_or places k 0) * 2 ^ k % 4294967296 ≡ gathered word (take (k + 1) places)
  more_gathered = omega (arith, are, bit_small, power_small, gathered-more word places k (omega arith))

pub all_small : (word : ℕ) (places : List ℕ) (k bits : ℕ) → length places ≡ 31 → bits ≡ gathered word (take k places) → bits < 2 ^ 31
all_small word places k bits count are =
    let few : gathered word (take k places) < 2 ^ length (take k places) = gathered_small word (take k places) in
    let power : 2 ^ length (take k places) ≤ 2 ^ 31 = pow_mono {i = length (take k places)} {j = 31} (omega (arith, length-take k places)) in
    omega (arith, are, few, power)
