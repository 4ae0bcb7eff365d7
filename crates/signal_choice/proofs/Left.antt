-- The signals of a set that are not in another.
use Rattle.std.proofs.Common.{◌≡◌, ℕ, zero, suc, ◌-◌, ◌/◌, ◌%◌, ◌^◌, ◌+◌, ◌<◌, [], ◌∷◌, length, get_or, refl, ap, ◌∙◌, arith}
use Rattle.std.specs.Prelude.{◌==◌, ◌&&◌, bit_and, not, min}
use Rattle.std.specs.Int.{bit_at, w32}
use Rattle.std.proofs.lemmas.Nat.{and-not, and_comm}
use Rattle.std.proofs.lemmas.Nat.Bits.{bit_at-lt, bit_at_and, bit_at_not}
use Rattle.kernel_core.specs.declared.signal.Sig.{Sig}
use Rattle.kernel_model.proofs.Posting.{place_below}
use Rattle.kernel_model.specs.Always.{IsSet}
use Rattle.kernel_model.specs.SignalSets.{SignalSet, has, place, without}

pub left_bit : (word other i : ℕ) → word < 2 ^ 32 → other < 2 ^ 32 → i < 32 → bit_at (word - bit_and word other) i ≡ min (1 - bit_at other i) (bit_at word i)
left_bit word other i small fits below =
    let rest : bit_and (2 ^ 32 - 1 - other) word + bit_and other word ≡ word = and-not 32 other word fits small in
    let is : word - bit_and word other ≡ bit_and (2 ^ 32 - 1 - other) word = omega (arith, and_comm word other) in
    ap (λ (n : ℕ). bit_at n i) is
    ∙ bit_at_and (2 ^ 32 - 1 - other) word i
    ∙ ap (λ (n : ℕ). min n (bit_at word i)) (bit_at_not w32 other i fits below)

pub free_test : (a b : ℕ) → a < 2 → b < 2 → (min (1 - b) a == 1) ≡ ((a == 1) && not (b == 1))
free_test zero zero p q = refl
free_test zero (suc zero) p q = refl
free_test (suc zero) zero p q = refl
free_test (suc zero) (suc zero) p q = refl
free_test (suc (suc a)) b p q = absurd (omega arith)
free_test a (suc (suc b)) p q = absurd (omega arith)

pub left_word : (left right : SignalSet) (k : ℕ) → length left ≡ length right → k < length left
    → get_or (without left right) k 0 ≡ get_or left k 0 - bit_and (get_or left k 0) (get_or right k 0)
left_word [] right k same inside = absurd (omega arith)
left_word (a ∷ left) [] k same inside = absurd (omega arith)
left_word (a ∷ left) (b ∷ right) zero same inside = refl
left_word (a ∷ left) (b ∷ right) (suc k) same inside = left_word left right k (omega arith) (omega arith)

pub has_left : (set other : SignalSet) (signal : Sig) → IsSet set → IsSet other → has (without set other) signal ≡ (has set signal && not (has other signal))
has_left set other signal is are =
    let low = place_below signal in
    let k = place signal / 32 in
    let i = place signal % 32 in
    let few : k < 4 = omega (arith, low) in
    let word : get_or (without set other) k 0 ≡ get_or set k 0 - bit_and (get_or set k 0) (get_or other k 0) =
    left_word set other k (omega (arith, is.0, are.0)) (omega (arith, is.0)) in
    ap (λ (w : ℕ). bit_at w i == 1) word
    ∙ ap (λ (b : ℕ). b == 1) (left_bit (get_or set k 0) (get_or other k 0) i (is.1 k 0 (omega (arith, is.0))) (are.1 k 0 (omega (arith, are.0))) (omega arith))
    ∙ free_test (bit_at (get_or set k 0) i) (bit_at (get_or other k 0) i) (bit_at-lt (get_or set k 0) i) (bit_at-lt (get_or other k 0) i)
