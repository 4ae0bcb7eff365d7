-- A set of one world made that of the other.
use Rattle.std.proofs.Common.{◌≡◌, ℕ, ◌+◌, ◌-◌, ◌*◌, ◌/◌, ◌%◌, ◌^◌, ◌<◌, List, [], ◌∷◌, length, get_or, refl, sym, ap, subst, ◌∙◌, arith, lit<}
use Rattle.std.specs.Prelude.{bit_and}
use Rattle.std.specs.Int.{bit_at}
use Rattle.kernel_core.specs.declared.signal.Sig.{Sig}
use Rattle.kernel_core.specs.declared.signal.Sig.TheVariants as sigs
use Rattle.kernel_model.specs.SignalSets.{SignalSet, place}
use Rattle.number_tables.specs.Signals.{native_signal}
use Rattle.signal_sets.specs.NativeSets.{NativeSet, AreSame}
use Rattle.signal_sets.specs.inside.Gathered.{gathered}
use Rattle.signal_sets.proofs.HalfWords.{half_small, bit_at-half, bit_at-half_top}
use Rattle.signal_sets.proofs.SameSets.{same_signals, real_time_range, four_words, two_words}

-- the two orders of the standard signals
abbrev pub o32_bits : List ℕ
o32_bits =
    0 ∷ 1 ∷ 2 ∷ 3 ∷ 4 ∷ 5 ∷ 9 ∷ 7 ∷ 8 ∷ 15 ∷ 10 ∷ 16 ∷ 12 ∷ 13 ∷ 14 ∷ 6 ∷ 17 ∷ 24 ∷ 22 ∷ 23 ∷ 25 ∷ 26 ∷ 20 ∷ 29 ∷ 30 ∷ 27 ∷ 28 ∷ 19 ∷ 21 ∷ 18 ∷ 11
    ∷ []

abbrev pub native_bits : List ℕ
native_bits =
    0 ∷ 1 ∷ 2 ∷ 3 ∷ 4 ∷ 5 ∷ 15 ∷ 7 ∷ 8 ∷ 6 ∷ 10 ∷ 30 ∷ 12 ∷ 13 ∷ 14 ∷ 9 ∷ 11 ∷ 16 ∷ 29 ∷ 27 ∷ 22 ∷ 28 ∷ 18 ∷ 19 ∷ 17 ∷ 20 ∷ 21 ∷ 25 ∷ 26 ∷ 23 ∷ 24
    ∷ []

native_small : (signal : Sig) → place signal < 31 → native_signal signal - 1 < 31
native_small (sigs.RealTime signal) low = low
native_small _ low = lit< tt

o32_bit : (signal : Sig) → place signal < 31 → get_or o32_bits (native_signal signal - 1) 0 ≡ place signal
o32_bit (sigs.RealTime signal) low = let range = real_time_range signal in absurd (omega (arith, low, range))
o32_bit _ low = refl

native_bit : (signal : Sig) → place signal < 31 → get_or native_bits (place signal) 0 ≡ native_signal signal - 1
native_bit (sigs.RealTime signal) low = let range = real_time_range signal in absurd (omega (arith, low, range))
native_bit _ low = refl

pub to_native_same : (set : SignalSet) (bits n0 n1 : ℕ) → length set ≡ 4 → get_or set 2 0 < 2 ^ 32
    → bits ≡ gathered (get_or set 0 0) o32_bits
    → n0 ≡ get_or set 1 0 * 2 ^ 32 + (bits + bit_and (get_or set 0 0) (2 ^ 31))
    → n1 ≡ get_or set 3 0 * 2 ^ 32 + get_or set 2 0
    → AreSame set (n0 ∷ n1 ∷ [])
to_native_same set bits n0 n1 count small is_bits is_first is_second =
    let w0 = get_or set 0 0 in
    let half = bits + bit_and w0 (2 ^ 31) in
    let is_half : half ≡ gathered w0 o32_bits + bit_and w0 (2 ^ 31) = ap (λ (n : ℕ). n + bit_and w0 (2 ^ 31)) is_bits in
    subst (λ (s : SignalSet). AreSame s (n0 ∷ n1 ∷ [])) (sym (four_words set count))
    (same_signals w0 (get_or set 1 0) (get_or set 2 0) (get_or set 3 0) n0 n1 half (record {
      first = is_first;
      second = is_second;
      half_small = half_small w0 o32_bits refl half is_half;
      w2_small = small;
      top = sym (bit_at-half_top w0 o32_bits refl half is_half);
      standard = λ signal low.
          sym (bit_at-half w0 o32_bits refl half is_half (native_signal signal - 1) (native_small signal low) ∙ ap (λ (p : ℕ). bit_at w0 p) (o32_bit signal low));
    }))

pub of_native_same : (native : NativeSet) (bits half w1 w2 w3 : ℕ) → length native ≡ 2
    → half ≡ get_or native 0 0 % 2 ^ 32 → w1 ≡ get_or native 0 0 / 2 ^ 32
    → w2 ≡ get_or native 1 0 % 2 ^ 32 → w3 ≡ get_or native 1 0 / 2 ^ 32
    → bits ≡ gathered half native_bits
    → AreSame ((bits + bit_and half (2 ^ 31)) ∷ w1 ∷ w2 ∷ w3 ∷ []) native
of_native_same native bits half w1 w2 w3 count is_half is_w1 is_w2 is_w3 is_bits =
    let w0 = bits + bit_and half (2 ^ 31) in
    let is_w0 : w0 ≡ gathered half native_bits + bit_and half (2 ^ 31) = ap (λ (n : ℕ). n + bit_and half (2 ^ 31)) is_bits in
    subst (λ (n : NativeSet). AreSame (w0 ∷ w1 ∷ w2 ∷ w3 ∷ []) n) (sym (two_words native count))
    (same_signals w0 w1 w2 w3 (get_or native 0 0) (get_or native 1 0) half (record {
      first = omega arith;
      second = omega arith;
      half_small = omega arith;
      w2_small = omega arith;
      top = bit_at-half_top half native_bits refl w0 is_w0;
      standard = λ signal low.
          bit_at-half half native_bits refl w0 is_w0 (place signal) low ∙ ap (λ (p : ℕ). bit_at half p) (native_bit signal low);
    }))
