-- A bit of a word by its place, and a set without KILL and STOP.
use Rattle.std.proofs.Common.{◌≡◌, ℕ, ◌+◌, ◌-◌, ◌*◌, ◌%◌, ◌^◌, ◌<◌, List, [], ◌∷◌, length, get_or, ap, ◌∙◌, arith}
use Rattle.std.specs.Prelude.{bit_and}
use Rattle.std.specs.Int.Bits.{and_zero_r}
use Rattle.std.proofs.lemmas.Nat.{and_comm, and-not, one_shl}
use Rattle.kernel_model.specs.SignalSets.{blockable}

pub shifted : (k : ℕ) → k < 32 → (1 * 2 ^ k) % 4294967296 ≡ 2 ^ k
shifted k below = one_shl k 32 below

-- KILL and STOP are bits 8 and 22
pub without_both : (word : ℕ) → word < 2 ^ 32 → bit_and word 4290772735 ≡ word - bit_and word 4194560
without_both word small =
    let rest : bit_and 4290772735 word + bit_and 4194560 word ≡ word = and-not 32 4194560 word (omega arith) small in
    omega (arith, rest, and_comm word 4290772735, and_comm word 4194560)

without_none : (word : ℕ) → word ≡ word - bit_and word 0
without_none word = omega (arith, and_zero_r word)

words_of : (a b c d : ℕ) → a < 2 ^ 32 → bit_and a 4290772735 ∷ b ∷ c ∷ d ∷ [] ≡ blockable (a ∷ b ∷ c ∷ d ∷ [])
words_of a b c d small =
    ap (λ (w : ℕ). w ∷ b ∷ c ∷ d ∷ []) (without_both a small)
    ∙ ap (λ (w : ℕ). (a - bit_and a 4194560) ∷ w ∷ c ∷ d ∷ []) (without_none b)
    ∙ ap (λ (w : ℕ). (a - bit_and a 4194560) ∷ (b - bit_and b 0) ∷ w ∷ d ∷ []) (without_none c)
    ∙ ap (λ (w : ℕ). (a - bit_and a 4194560) ∷ (b - bit_and b 0) ∷ (c - bit_and c 0) ∷ w ∷ []) (without_none d)

pub blockable_words : (set : List ℕ) → length set ≡ 4 → get_or set 0 0 < 2 ^ 32
    → bit_and (get_or set 0 0) 4290772735 ∷ get_or set 1 0 ∷ get_or set 2 0 ∷ get_or set 3 0 ∷ [] ≡ blockable set
blockable_words [] count small = absurd (omega arith)
blockable_words (a ∷ []) count small = absurd (omega arith)
blockable_words (a ∷ b ∷ []) count small = absurd (omega arith)
blockable_words (a ∷ b ∷ c ∷ []) count small = absurd (omega arith)
blockable_words (a ∷ b ∷ c ∷ d ∷ []) count small = words_of a b c d small
blockable_words (a ∷ b ∷ c ∷ d ∷ e ∷ more) count small = absurd (omega arith)
