-- Which signals are in sets.
use Rattle.std.proofs.Common.{◌≡◌, ℕ, zero, suc, ◌+◌, ◌-◌, ◌*◌, ◌/◌, ◌%◌, ◌^◌, ◌<◌, ◌≤◌, min, max, List, [], ◌∷◌, drop, length, get_or, Bool, true, false, ◌&&◌, ◌||◌, refl, sym, ◌∙◌, ap, arith, inl, inr}
use Rattle.std.specs.Int.Bits.{and_step}
use Rattle.std.proofs.lemmas.Bool.{cases_eq, eq-eqb, ne_eqb}
use Rattle.std.proofs.lemmas.List.{get_or-drop, get_or-take}
use Rattle.std.proofs.lemmas.Nat.{and_le_l}
use Rattle.std.proofs.lemmas.Nat.Bits.{bit_at-lt, bit_at-pow_other, bit_at-pow_same, bit_at-suc, bit_at-zero, bit_at_lowest, bit_at_or}
use Rattle.std.specs.Int.{bit_at}
use Rattle.std.specs.Prelude.{bit_and, bit_or, map, not, zip, ◌==◌, slice_range, if◌then◌else◌}
use Rattle.kernel_core.specs.NameCalls.{is_empty_list}
use Rattle.kernel_core.specs.declared.signal.Sig.{Sig}
use Rattle.kernel_laws.proofs.SignalWords.{halved}
use Rattle.kernel_model.proofs.Posting.{place_below}
use Rattle.kernel_model.specs.Shared.{Info}
use Rattle.kernel_model.specs.SignalRows.{bits_of, pending_at, pending_set, pends}
use Rattle.kernel_model.specs.SignalSets.{SignalSet, blockable, has, no_signals, only, place, unblockable, union, without}
use Rattle.kernel_model.specs.State.{Signals}

-- One bit

bit_less : (i a b : ℕ) → bit_at (a - bit_and a b) i ≡ bit_at a i - min (bit_at a i) (bit_at b i)
bit_less zero a b =
    let step : bit_and a b ≡ bit_and (a / 2) (b / 2) * 2 + min (a % 2) (b % 2) = and_step a b in
    let low : bit_and (a / 2) (b / 2) ≤ a / 2 = and_le_l (a / 2) (b / 2) in
    omega (arith, step, low, bit_at_lowest (a - bit_and a b), bit_at_lowest a, bit_at_lowest b)
bit_less (suc i) a b =
    let step : bit_and a b ≡ bit_and (a / 2) (b / 2) * 2 + min (a % 2) (b % 2) = and_step a b in
    let half : (a - bit_and a b) / 2 ≡ a / 2 - bit_and (a / 2) (b / 2) = halved a b (bit_and (a / 2) (b / 2)) step (and_le_l (a / 2) (b / 2)) in
    bit_at-suc (a - bit_and a b) i
    ∙ ap (λ n. bit_at n i) half
    ∙ bit_less i (a / 2) (b / 2)
    ∙ sym (ap (λ x. x - min x (bit_at b (suc i))) (bit_at-suc a i) ∙ ap (λ y. bit_at (a / 2) i - min (bit_at (a / 2) i) y) (bit_at-suc b i))

either_bit : (x y : ℕ) → x < 2 → y < 2 → (max x y == 1) ≡ ((x == 1) || (y == 1))
either_bit zero zero p q = refl
either_bit zero (suc zero) p q = refl
either_bit (suc zero) zero p q = refl
either_bit (suc zero) (suc zero) p q = refl
either_bit (suc (suc x)) y p q = absurd (omega (arith, p))
either_bit zero (suc (suc y)) p q = absurd (omega (arith, q))
either_bit (suc zero) (suc (suc y)) p q = absurd (omega (arith, q))

first_bit_alone : (x y : ℕ) → x < 2 → y < 2 → (x - min x y == 1) ≡ ((x == 1) && not (y == 1))
first_bit_alone zero zero p q = refl
first_bit_alone zero (suc zero) p q = refl
first_bit_alone (suc zero) zero p q = refl
first_bit_alone (suc zero) (suc zero) p q = refl
first_bit_alone (suc (suc x)) y p q = absurd (omega (arith, p))
first_bit_alone zero (suc (suc y)) p q = absurd (omega (arith, q))
first_bit_alone (suc zero) (suc (suc y)) p q = absurd (omega (arith, q))

-- Words

zipped_word : (join : ℕ → ℕ → ℕ) → join 0 0 ≡ 0 → (left right : SignalSet) → length left ≡ length right → (k : ℕ)
    → get_or (map (λ p. join p.0 p.1) (zip left right)) k 0 ≡ join (get_or left k 0) (get_or right k 0)
zipped_word join none [] [] e k = sym none
zipped_word join none [] (b ∷ right) e k = absurd (omega (arith, e))
zipped_word join none (a ∷ left) [] e k = absurd (omega (arith, e))
zipped_word join none (a ∷ left) (b ∷ right) e zero = refl
zipped_word join none (a ∷ left) (b ∷ right) e (suc k) = zipped_word join none left right (omega (arith, e)) k

-- Sets

pub union_has : (left right : SignalSet) (signal : Sig) → length left ≡ length right → has (union left right) signal ≡ (has left signal || has right signal)
union_has left right signal e =
    let k = place signal / 32 in
    let i = place signal % 32 in
    ap (λ w. bit_at w i == 1) (zipped_word bit_or refl left right e k)
    ∙ ap (λ b. b == 1) (bit_at_or (get_or left k 0) (get_or right k 0) i)
    ∙ either_bit (bit_at (get_or left k 0) i) (bit_at (get_or right k 0) i) (bit_at-lt (get_or left k 0) i) (bit_at-lt (get_or right k 0) i)

pub without_has : (left right : SignalSet) (signal : Sig) → length left ≡ length right → has (without left right) signal ≡ (has left signal && not (has right signal))
without_has left right signal e =
    let k = place signal / 32 in
    let i = place signal % 32 in
    ap (λ w. bit_at w i == 1) (zipped_word (λ a b. a - bit_and a b) refl left right e k)
    ∙ ap (λ b. b == 1) (bit_less i (get_or left k 0) (get_or right k 0))
    ∙ first_bit_alone (bit_at (get_or left k 0) i) (bit_at (get_or right k 0) i) (bit_at-lt (get_or left k 0) i) (bit_at-lt (get_or right k 0) i)

pub blockable_has : (set : SignalSet) (signal : Sig) → length set ≡ 4 → has (blockable set) signal ≡ (has set signal && not (has unblockable signal))
blockable_has set signal e = without_has set unblockable signal e

-- the set of one signal

four_words : (word : ℕ → ℕ) (k : ℕ) → k < 4 → get_or (word 0 ∷ word 1 ∷ word 2 ∷ word 3 ∷ []) k 0 ≡ word k
four_words word zero low = refl
four_words word (suc zero) low = refl
four_words word (suc (suc zero)) low = refl
four_words word (suc (suc (suc zero))) low = refl
four_words word (suc (suc (suc (suc k)))) low = absurd (omega (arith, low))

one_bit : (p q : ℕ) → (bit_at (if p / 32 == q / 32 then 2 ^ (q % 32) else 0) (p % 32) == 1) ≡ (p == q)
one_bit p q = elim (cases_eq (p / 32) (q / 32)) [
  | inl word ↦ ap (λ b. bit_at (if b then 2 ^ (q % 32) else 0) (p % 32) == 1) (eq-eqb (p / 32) (q / 32) word) ∙ elim (cases_eq (p % 32) (q % 32)) [
    | inl here ↦
        let both : p ≡ q = omega (arith, word, here) in
        ap (λ i. bit_at (2 ^ (q % 32)) i == 1) here ∙ ap (λ b. b == 1) (bit_at-pow_same (q % 32)) ∙ sym (eq-eqb p q both)
    | inr other ↦
        ap (λ b. b == 1) (bit_at-pow_other (q % 32) (p % 32) other) ∙ sym (ne_eqb p q (λ e. other (ap (λ n. n % 32) e)))
  ]
  | inr apart ↦
      ap (λ b. bit_at (if b then 2 ^ (q % 32) else 0) (p % 32) == 1) (ne_eqb (p / 32) (q / 32) apart)
      ∙ ap (λ b. b == 1) (bit_at-zero (p % 32))
      ∙ sym (ne_eqb p q (λ e. apart (ap (λ n. n / 32) e)))
]

pub only_has : (one signal : Sig) → has (only one) signal ≡ (place signal == place one)
only_has one signal =
    let low : place signal / 32 < 4 = omega (arith, place_below signal) in
    ap (λ w. bit_at w (place signal % 32) == 1) (four_words (λ k. if k == place one / 32 then 2 ^ (place one % 32) else 0) (place signal / 32) low)
    ∙ one_bit (place signal) (place one)

pub none_has : (signal : Sig) → has no_signals signal ≡ false
none_has signal =
    let low : place signal / 32 < 4 = omega (arith, place_below signal) in
    ap (λ w. bit_at w (place signal % 32) == 1) (four_words (λ k. 0) (place signal / 32) low) ∙ ap (λ b. b == 1) (bit_at-zero (place signal % 32))

-- what pends

bits_tell : (lists : List (List Info)) (i : ℕ) → (bit_at (bits_of lists) i == 1) ≡ not (is_empty_list (get_or lists i []))
bits_tell [] i = ap (λ b. b == 1) (bit_at-zero i)
bits_tell (infos ∷ rest) zero = ap (λ b. b == 1) (bit_at_lowest (bits_of (infos ∷ rest))) ∙ by infos where
  by : (first : List Info) → (((if is_empty_list first then 0 else 1) + 2 * bits_of rest) % 2 == 1) ≡ not (is_empty_list first)
  by [] = let even : (0 + 2 * bits_of rest) % 2 ≡ 0 = omega arith in ap (λ b. b == 1) even
  by (info ∷ infos) = let odd : (1 + 2 * bits_of rest) % 2 ≡ 1 = omega arith in ap (λ b. b == 1) odd
bits_tell (infos ∷ rest) (suc i) =
    ap (λ b. b == 1) (bit_at-suc (bits_of (infos ∷ rest)) i ∙ ap (λ n. bit_at n i) (half (is_empty_list infos))) ∙ bits_tell rest i where
      half : (b : Bool) → ((if b then 0 else 1) + 2 * bits_of rest) / 2 ≡ bits_of rest
      half true = omega arith
      half false = omega arith

pub pending_has : (signals : Signals) (signal : Sig) → has (pending_set signals) signal ≡ pends signals signal
pending_has signals signal =
    let p = place signal in
    let k = p / 32 in
    let i = p % 32 in
    let low : k < 4 = omega (arith, place_below signal) in
    let short : i < 32 * k + 32 - 32 * k = omega arith in
    let whole : 32 * k + i ≡ p = omega arith in
    let there : get_or (slice_range signals.pending (32 * k) (32 * k + 32)) i [] ≡ pending_at signals signal
    = get_or-take (32 * k + 32 - 32 * k) (drop (32 * k) signals.pending) i [] short ∙ get_or-drop (32 * k) signals.pending i [] ∙ ap (λ n. get_or signals.pending n []) whole in
    ap (λ w. bit_at w i == 1) (four_words (λ n. bits_of (slice_range signals.pending (32 * n) (32 * n + 32))) k low)
    ∙ bits_tell (slice_range signals.pending (32 * k) (32 * k + 32)) i
    ∙ ap (λ infos. not (is_empty_list infos)) there
