-- The definitions of both directions have the signals of what they are made of.
use Rattle.std.proofs.Common.{◌≡◌, ℕ, zero, suc, ◌+◌, ◌-◌, ◌*◌, ◌/◌, ◌%◌, ◌^◌, ◌<◌, ◌≤◌, Bool, true, false, [], ◌∷◌, get_or, refl, sym, ap, ◌∙◌, arith, lit<, lit≤}
use Rattle.std.specs.Prelude.{◌==◌, if◌then◌else◌}
use Rattle.std.specs.Int.{bit_at}
use Rattle.std.proofs.lemmas.Nat.Bits.{bit_at_lowest, bit_at-suc}
use Rattle.std.proofs.Math.Nat.{pow-succ'}
use Rattle.kernel_core.specs.declared.signal.Sig.{Sig}
use Rattle.kernel_core.specs.declared.signal.Sig.TheVariants as sigs
use Rattle.kernel_model.proofs.Posting.{place_below}
use Rattle.kernel_model.specs.Always.{IsSet}
use Rattle.kernel_model.specs.SignalSets.{SignalSet, place, has, words}
use Rattle.number_tables.specs.Signals.{o32_signal, native_signal, signal_of_o32, signal_of_native}
use Rattle.number_tables.specs.inside.SignalLaws.{o32_signal_found, native_signal_found}
use Rattle.signal_sets.specs.NativeSets.{NativeSet, IsNativeSet, AreSame, has_natively, bits_where, is_member, native_of, set_of_native}
use Rattle.signal_sets.proofs.Known.{same_set, same_native_set}
use Rattle.signal_sets.proofs.SameSets.{real_time_range}

abbrev one_if : Bool → ℕ
one_if b = if b then 1 else 0

one_small : (b : Bool) → one_if b < 2
one_small true = lit< tt
one_small false = lit< tt

one_tested : (b : Bool) → (one_if b == 1) ≡ b
one_tested true = refl
one_tested false = refl

where_small : (test : ℕ → Bool) (from count : ℕ) → bits_where test from count < 2 ^ count
unfolding bits_where
where_small test from zero = lit< tt
where_small test from (suc count) = omega (arith, one_small (test from), where_small test (from + 1) count, pow-succ' 2 count)

bit_where : (test : ℕ → Bool) (from count i : ℕ) → i < count → (bit_at (bits_where test from count) i == 1) ≡ test (from + i)
unfolding bits_where
bit_where test from zero i inside = absurd (omega arith)
bit_where test from (suc count) zero inside =
    let small : one_if (test from) < 2 = one_small (test from) in
    let e : (one_if (test from) + 2 * bits_where test (from + 1) count) % 2 ≡ one_if (test from) = omega arith in
    let at : from ≡ from + 0 = omega arith in
    ap (λ (n : ℕ). n == 1) (bit_at_lowest (one_if (test from) + 2 * bits_where test (from + 1) count) ∙ e) ∙ one_tested (test from) ∙ ap test at
bit_where test from (suc count) (suc i) inside =
    let small : one_if (test from) < 2 = one_small (test from) in
    let e : (one_if (test from) + 2 * bits_where test (from + 1) count) / 2 ≡ bits_where test (from + 1) count = omega arith in
    let at : from + 1 + i ≡ from + suc i = omega arith in
    ap (λ (n : ℕ). n == 1) (bit_at-suc (one_if (test from) + 2 * bits_where test (from + 1) count) i ∙ ap (λ (n : ℕ). bit_at n i) e)
    ∙ bit_where test (from + 1) count i (omega arith)
    ∙ ap test at

-- the words of both kinds

native_word : (test : ℕ → Bool) (k : ℕ) → k < 2 → get_or (bits_where test 1 64 ∷ bits_where test 65 64 ∷ []) k 0 ≡ bits_where test (64 * k + 1) 64
native_word test zero few = refl
native_word test (suc zero) few = refl
native_word test (suc (suc k)) few = absurd (omega arith)

word : (test : ℕ → Bool) (k : ℕ) → k < 4 → get_or (words (λ k. bits_where test (32 * k + 1) 32)) k 0 ≡ bits_where test (32 * k + 1) 32
word test zero few = refl
word test (suc zero) few = refl
word test (suc (suc zero)) few = refl
word test (suc (suc (suc zero))) few = refl
word test (suc (suc (suc (suc k)))) few = absurd (omega arith)

-- the numbers

native_range : (signal : Sig) → (1 ≤ native_signal signal) × (native_signal signal ≤ 128)
native_range (sigs.RealTime signal) = let range = real_time_range signal in (omega (arith, range), omega (arith, range))
native_range _ = (lit≤ tt, lit≤ tt)

o32_number : (signal : Sig) → place signal + 1 ≡ o32_signal signal
o32_number (sigs.RealTime signal) = let range = real_time_range signal in omega (arith, range)
o32_number _ = refl

-- the signals

native_of-signals : (set : SignalSet) (signal : Sig) → has_natively (native_of set) signal ≡ has set signal
unfolding native_of
native_of-signals set signal =
    let test : ℕ → Bool = λ number. is_member (has set) (signal_of_native number) in
    let p = native_signal signal - 1 in
    let range = native_range signal in
    let at : 64 * (p / 64) + 1 + p % 64 ≡ native_signal signal = omega (arith, range) in
    ap (λ (w : ℕ). bit_at w (p % 64) == 1) (native_word test (p / 64) (omega (arith, range)))
    ∙ bit_where test (64 * (p / 64) + 1) 64 (p % 64) (omega arith)
    ∙ ap test at
    ∙ ap (is_member (has set)) (native_signal_found signal)

set_of_native-signals : (native : NativeSet) (signal : Sig) → has (set_of_native native) signal ≡ has_natively native signal
unfolding set_of_native
set_of_native-signals native signal =
    let test : ℕ → Bool = λ number. is_member (has_natively native) (signal_of_o32 number) in
    let p = place signal in
    let low : p < 128 = place_below signal in
    let at : 32 * (p / 32) + 1 + p % 32 ≡ o32_signal signal = omega (arith, o32_number signal) in
    ap (λ (w : ℕ). bit_at w (p % 32) == 1) (word test (p / 32) (omega arith))
    ∙ bit_where test (32 * (p / 32) + 1) 32 (p % 32) (omega arith)
    ∙ ap test at
    ∙ ap (is_member (has_natively native)) (o32_signal_found signal)

-- the ranges of the words

pub two_words_small : (a b : ℕ) → a < 2 ^ 64 → b < 2 ^ 64 → IsNativeSet (a ∷ b ∷ [])
two_words_small a b p q = record { count = refl; words = at } where
  at : (k d : ℕ) → k < 2 → get_or (a ∷ b ∷ []) k d < 2 ^ 64
  at zero d inside = p
  at (suc zero) d inside = q
  at (suc (suc k)) d inside = absurd (omega arith)

pub four_words_small : (a b c d : ℕ) → a < 2 ^ 32 → b < 2 ^ 32 → c < 2 ^ 32 → d < 2 ^ 32 → IsSet (a ∷ b ∷ c ∷ d ∷ [])
four_words_small a b c d p q r s = (refl, at) where
  at : (k e : ℕ) → k < 4 → get_or (a ∷ b ∷ c ∷ d ∷ []) k e < 2 ^ 32
  at zero e inside = p
  at (suc zero) e inside = q
  at (suc (suc zero)) e inside = r
  at (suc (suc (suc zero))) e inside = s
  at (suc (suc (suc (suc k)))) e inside = absurd (omega arith)

pub IsNativeSet-native_of : (set : SignalSet) → IsNativeSet (native_of set)
unfolding native_of
IsNativeSet-native_of set = two_words_small _ _ (where_small _ 1 64) (where_small _ 65 64)

pub IsSet-set_of_native : (native : NativeSet) → IsSet (set_of_native native)
unfolding set_of_native
IsSet-set_of_native native = four_words_small _ _ _ _ (where_small _ 1 32) (where_small _ 33 32) (where_small _ 65 32) (where_small _ 97 32)

-- there is one set with the signals of another, and it is that of the definition

pub native_of-only : (set : SignalSet) (native : NativeSet) → IsNativeSet native → AreSame set native → native ≡ native_of set
native_of-only set native is same =
    same_native_set native (native_of set) (λ signal. sym (same signal) ∙ sym (native_of-signals set signal)) is (IsNativeSet-native_of set)

pub set_of_native-only : (set : SignalSet) (native : NativeSet) → IsSet set → AreSame set native → set ≡ set_of_native native
set_of_native-only set native is same =
    same_set set (set_of_native native) (λ signal. same signal ∙ sym (set_of_native-signals native signal)) is (IsSet-set_of_native native)

-- each undoes the other

pub set_again : (set : SignalSet) → IsSet set → set_of_native (native_of set) ≡ set
set_again set is = sym (set_of_native-only set (native_of set) is (λ signal. sym (native_of-signals set signal)))

pub native_again : (native : NativeSet) → IsNativeSet native → native_of (set_of_native native) ≡ native
native_again native is = sym (native_of-only (set_of_native native) native is (set_of_native-signals native))
