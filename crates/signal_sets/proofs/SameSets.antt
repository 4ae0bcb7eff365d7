-- The signals of a set, and those of the other world's.
use Rattle.std.proofs.Common.{◌≡◌, ℕ, zero, suc, ◌+◌, ◌-◌, ◌*◌, ◌/◌, ◌%◌, ◌^◌, ◌<◌, ◌≤◌, Bool, true, false, ◌&&◌, List, [], ◌∷◌, length, get_or, refl, sym, ap, ◌∙◌, arith, lit<}
use Rattle.std.specs.Prelude.{nat_le, ◌==◌}
use Rattle.std.specs.Int.{bit_at}
use Rattle.std.proofs.lemmas.Bool.{leb-true}
use Rattle.std.proofs.lemmas.Nat.Bits.{bit_at_cat_low, bit_at_cat_high}
use Rattle.kernel_core.specs.declared.signal.RealTime.{RealTime}
use Rattle.kernel_core.specs.declared.signal.Sig.{Sig}
use Rattle.kernel_core.specs.declared.signal.Sig.TheVariants as sigs
use Rattle.kernel_model.specs.SignalSets.{SignalSet, place, has}
use Rattle.number_tables.specs.Signals.{o32_signal, native_signal}
use Rattle.signal_sets.specs.NativeSets.{NativeSet, AreSame, has_number}

-- the number of a real-time signal
pub real_time_range : (signal : RealTime) → (32 ≤ signal.number) × (signal.number ≤ 128)
real_time_range signal = by (nat_le 32 signal.number) (nat_le signal.number 128) refl refl signal.in_range where
  by : (a b : Bool) → nat_le 32 signal.number ≡ a → nat_le signal.number 128 ≡ b → (a && b) ≡ true → (32 ≤ signal.number) × (signal.number ≤ 128)
  by true true p q h = (leb-true 32 signal.number p, leb-true signal.number 128 q)
  by true false p q h = absurd cc
  by false b p q h = absurd cc

-- a word of 64 bits, from two of 32
joined_low : (high low i : ℕ) → i < 32 → bit_at (high * 2 ^ 32 + low) i ≡ bit_at low i
joined_low high low i below = bit_at_cat_low high 32 low i below

joined_high : (high low i : ℕ) → low < 2 ^ 32 → 32 ≤ i → bit_at (high * 2 ^ 32 + low) i ≡ bit_at high (i - 32)
joined_high high low i small above = bit_at_cat_high high 32 low i small above

-- The words of a set and of a native set: the low half of the first native word has the standard signals in another order, and the
-- first real-time signal.
pub record AreWords (w0 w1 w2 w3 n0 n1 half : ℕ) : Type 0 where
  pub first : n0 ≡ w1 * 2 ^ 32 + half
  pub second : n1 ≡ w3 * 2 ^ 32 + w2
  pub half_small : half < 2 ^ 32
  pub w2_small : w2 < 2 ^ 32
  pub top : bit_at w0 31 ≡ bit_at half 31
  pub standard : (signal : Sig) → place signal < 31 → bit_at w0 (place signal) ≡ bit_at half (native_signal signal - 1)

module _ (w0 w1 w2 w3 n0 n1 half : ℕ) (is : AreWords w0 w1 w2 w3 n0 n1 half) where
  abbrev set : SignalSet
  set = w0 ∷ w1 ∷ w2 ∷ w3 ∷ []

  abbrev native : NativeSet
  native = n0 ∷ n1 ∷ []

  low_of_first : (i : ℕ) → i < 32 → bit_at n0 i ≡ bit_at half i
  low_of_first i below = ap (λ n. bit_at n i) is.first ∙ joined_low w1 half i below

  -- the bits of the other signals stand in their order
  other : (p k : ℕ) → 31 ≤ p → p / 32 ≡ k → k < 4 → bit_at (get_or set (p / 32) 0) (p % 32) ≡ bit_at (get_or native (p / 64) 0) (p % 64)
  other p zero high at small =
      let a : p / 64 ≡ 0 = omega arith in
      let b : p % 32 ≡ 31 = omega arith in
      let c : p % 64 ≡ 31 = omega arith in
      rw (at, a, b, c) (is.top ∙ sym (low_of_first 31 (lit< tt)))
  other p (suc zero) high at small =
      let a : p / 64 ≡ 0 = omega arith in
      let b : p % 32 ≡ p - 32 = omega arith in
      let c : p % 64 ≡ p = omega arith in
      rw (at, a, b, c) (sym (ap (λ n. bit_at n p) is.first ∙ joined_high w1 half p is.half_small (omega arith)))
  other p (suc (suc zero)) high at small =
      let a : p / 64 ≡ 1 = omega arith in
      let b : p % 32 ≡ p - 64 = omega arith in
      let c : p % 64 ≡ p - 64 = omega arith in
      rw (at, a, b, c) (sym (ap (λ n. bit_at n (p - 64)) is.second ∙ joined_low w3 w2 (p - 64) (omega arith)))
  other p (suc (suc (suc zero))) high at small =
      let a : p / 64 ≡ 1 = omega arith in
      let b : p % 32 ≡ p - 96 = omega arith in
      let c : p % 64 ≡ p - 64 = omega arith in
      let d : p - 64 - 32 ≡ p - 96 = omega arith in
      rw (at, a, b, c) (sym (ap (λ n. bit_at n (p - 64)) is.second ∙ joined_high w3 w2 (p - 64) is.w2_small (omega arith) ∙ ap (λ i. bit_at w3 i) d))
  other p (suc (suc (suc (suc k)))) high at small = absurd (omega arith)

  pub same_signals : AreSame set native
  same_signals (sigs.RealTime signal) =
      let range = real_time_range signal in
      ap (λ b. b == 1) (other (signal.number - 1) ((signal.number - 1) / 32) (omega (arith, range)) refl (omega (arith, range)))
  same_signals signal = ap (λ b. b == 1) (is.standard signal (lit< tt) ∙ sym (low_of_first (native_signal signal - 1) (lit< tt)))

pub four_words : (set : List ℕ) → length set ≡ 4 → set ≡ get_or set 0 0 ∷ get_or set 1 0 ∷ get_or set 2 0 ∷ get_or set 3 0 ∷ []
four_words [] count = absurd (omega arith)
four_words (a ∷ []) count = absurd (omega arith)
four_words (a ∷ b ∷ []) count = absurd (omega arith)
four_words (a ∷ b ∷ c ∷ []) count = absurd (omega arith)
four_words (a ∷ b ∷ c ∷ d ∷ []) count = refl
four_words (a ∷ b ∷ c ∷ d ∷ e ∷ more) count = absurd (omega arith)

pub two_words : (set : List ℕ) → length set ≡ 2 → set ≡ get_or set 0 0 ∷ get_or set 1 0 ∷ []
two_words [] count = absurd (omega arith)
two_words (a ∷ []) count = absurd (omega arith)
two_words (a ∷ b ∷ []) count = refl
two_words (a ∷ b ∷ c ∷ more) count = absurd (omega arith)

-- the place of a signal is its number for an o32 program less 1
number_of : (signal : Sig) → place signal ≡ o32_signal signal - 1
number_of (sigs.RealTime signal) = refl
number_of _ = refl

pub has-in_o32 : (set : SignalSet) (signal : Sig) → has set signal ≡ has_number 32 set (o32_signal signal)
has-in_o32 set signal = ap (λ (p : ℕ). get_or set (p / 32) 0 / 2 ^ (p % 32) % 2 == 1) (number_of signal)
