-- A set is known by its signals: each bit of its words is that of a signal.
use Rattle.std.proofs.Common.{◌≡◌, ℕ, zero, suc, ◌+◌, ◌-◌, ◌*◌, ◌/◌, ◌%◌, ◌<◌, ◌≤◌, Bool, true, false, ◌&&◌, List, [], ◌∷◌, length, map, get_or, refl, sym, ap, ◌∙◌, arith, zero-add}
use Rattle.std.specs.Prelude.{nat_le, ◌==◌}
use Rattle.std.specs.Int.{bit_at}
use Rattle.std.proofs.lemmas.Bool.{le-leb, leb-true, leb-false}
use Rattle.std.proofs.lemmas.List.{get_or-map}
use Rattle.std.proofs.lemmas.Nat.Bits.{same_from_bits_below, bit_at-lt}
use Rattle.kernel_core.specs.RealTime.{is_real_time}
use Rattle.kernel_core.specs.declared.signal.Sig.{Sig}
use Rattle.kernel_core.specs.declared.signal.Sig.TheVariants as sigs
use Rattle.kernel_model.specs.Always.{IsSet}
use Rattle.kernel_model.specs.SignalSets.{SignalSet, place, has}
use Rattle.number_tables.specs.Signals.{native_signal, named_signals}
use Rattle.signal_sets.specs.NativeSets.{NativeSet, IsNativeSet, has_natively}
use Rattle.signal_sets.proofs.SameSets.{four_words, two_words}

-- Each place has a signal

abbrev counts : ℕ → List ℕ → Bool
counts n [] = true
counts n (x ∷ xs) = (x == n) && counts (n + 1) xs

left_of : (a b : Bool) → (a && b) ≡ true → a ≡ true
left_of true b h = refl
left_of false b h = h

right_of : (a b : Bool) → (a && b) ≡ true → b ≡ true
right_of true b h = h
right_of false b h = absurd cc

equal : (a b : ℕ) → (a == b) ≡ true → a ≡ b
equal a b e = grind (arith, e)

counted : (n : ℕ) (xs : List ℕ) (k : ℕ) → counts n xs ≡ true → k < length xs → get_or xs k 0 ≡ n + k
counted n [] k h inside = absurd (omega arith)
counted n (x ∷ xs) zero h inside = omega (arith, equal x n (left_of (x == n) (counts (n + 1) xs) h))
counted n (x ∷ xs) (suc k) h inside = omega (arith, counted (n + 1) xs k (right_of (x == n) (counts (n + 1) xs) h) (omega arith))

in_range : (number : ℕ) → 32 ≤ number → number ≤ 128 → is_real_time number ≡ true
in_range number low high =
    ap (λ (b : Bool). b && nat_le number 128) (le-leb 32 number low) ∙ le-leb number 128 high

abbrev real_time_at : (p : ℕ) → 31 ≤ p → p < 128 → Sig
real_time_at p low high = sigs.RealTime (record { number = p + 1; in_range = in_range (p + 1) (omega arith) (omega arith) })

-- the standard signals in the order of the native numbers
abbrev native_order : List Sig
native_order =
    sigs.Hup ∷ sigs.Int ∷ sigs.Quit ∷ sigs.Ill ∷ sigs.Trap ∷ sigs.Abrt ∷ sigs.Bus ∷ sigs.Fpe ∷ sigs.Kill ∷ sigs.Usr1 ∷ sigs.Segv ∷ sigs.Usr2
    ∷ sigs.Pipe ∷ sigs.Alrm ∷ sigs.Term ∷ sigs.Emt ∷ sigs.Chld ∷ sigs.Cont ∷ sigs.Stop ∷ sigs.Tstp ∷ sigs.Ttin ∷ sigs.Ttou ∷ sigs.Urg ∷ sigs.Xcpu
    ∷ sigs.Xfsz ∷ sigs.Vtalrm ∷ sigs.Prof ∷ sigs.Winch ∷ sigs.Io ∷ sigs.Pwr ∷ sigs.Sys ∷ []

abbrev native_place : Sig → ℕ
native_place signal = native_signal signal - 1

at_place : (p : ℕ) → p < 128 → (signal : Sig) × (place signal ≡ p)
at_place p below = by (nat_le 31 p) refl where
  by : (b : Bool) → nat_le 31 p ≡ b → (signal : Sig) × (place signal ≡ p)
  by true e = (real_time_at p (leb-true 31 p e) below, let back : p + 1 - 1 ≡ p = omega arith in back)
  by false e =
      let inside : p < 31 = omega (arith, leb-false 31 p e) in
      (get_or named_signals p sigs.Hup, sym (get_or-map place named_signals p sigs.Hup 0 inside) ∙ counted 0 (map place named_signals) p refl inside ∙ zero-add p)

at_native_place : (p : ℕ) → p < 128 → (signal : Sig) × (native_place signal ≡ p)
at_native_place p below = by (nat_le 31 p) refl where
  by : (b : Bool) → nat_le 31 p ≡ b → (signal : Sig) × (native_place signal ≡ p)
  by true e = (real_time_at p (leb-true 31 p e) below, let back : p + 1 - 1 ≡ p = omega arith in back)
  by false e =
      let inside : p < 31 = omega (arith, leb-false 31 p e) in
      (get_or native_order p sigs.Hup, sym (get_or-map native_place native_order p sigs.Hup 0 inside) ∙ counted 0 (map native_place native_order) p refl inside ∙ zero-add p)

-- Bits that are tested alike are alike

same_bit : (a b : ℕ) → a < 2 → b < 2 → (a == 1) ≡ (b == 1) → a ≡ b
same_bit zero zero p q e = refl
same_bit zero (suc zero) p q e = absurd cc
same_bit zero (suc (suc b)) p q e = absurd (omega arith)
same_bit (suc zero) zero p q e = absurd cc
same_bit (suc zero) (suc zero) p q e = refl
same_bit (suc zero) (suc (suc b)) p q e = absurd (omega arith)
same_bit (suc (suc a)) b p q e = absurd (omega arith)

module _ (left right : SignalSet) (same : (signal : Sig) → has left signal ≡ has right signal) where
  bits : (k i : ℕ) → k < 4 → i < 32 → bit_at (get_or left k 0) i ≡ bit_at (get_or right k 0) i
  bits k i few below =
      let found = at_place (32 * k + i) (omega arith) in
      let word : place found.0 / 32 ≡ k = omega (arith, found.1) in
      let bit : place found.0 % 32 ≡ i = omega (arith, found.1) in
      let test : (bit_at (get_or left (place found.0 / 32) 0) (place found.0 % 32) == 1) ≡ (bit_at (get_or right (place found.0 / 32) 0) (place found.0 % 32) == 1) = same found.0 in
      same_bit _ _ (bit_at-lt (get_or left k 0) i) (bit_at-lt (get_or right k 0) i) (rw (word, bit) at test)

  word : IsSet left → IsSet right → (k : ℕ) → k < 4 → get_or left k 0 ≡ get_or right k 0
  word one two k few =
      same_from_bits_below 32 (get_or left k 0) (get_or right k 0) (one.1 k 0 (omega (arith, one.0))) (two.1 k 0 (omega (arith, two.0))) (λ i below. bits k i few below)

  pub same_set : IsSet left → IsSet right → left ≡ right
  same_set one two =
      let a = word one two 0 (omega arith) in
      let b = word one two 1 (omega arith) in
      let c = word one two 2 (omega arith) in
      let d = word one two 3 (omega arith) in
      let words : get_or left 0 0 ∷ get_or left 1 0 ∷ get_or left 2 0 ∷ get_or left 3 0 ∷ [] ≡ get_or right 0 0 ∷ get_or right 1 0 ∷ get_or right 2 0 ∷ get_or right 3 0 ∷ [] = cc in
      four_words left one.0 ∙ words ∙ sym (four_words right two.0)

module _ (left right : NativeSet) (same : (signal : Sig) → has_natively left signal ≡ has_natively right signal) where
  native_bits : (k i : ℕ) → k < 2 → i < 64 → bit_at (get_or left k 0) i ≡ bit_at (get_or right k 0) i
  native_bits k i few below =
      let found = at_native_place (64 * k + i) (omega arith) in
      let word : native_place found.0 / 64 ≡ k = omega (arith, found.1) in
      let bit : native_place found.0 % 64 ≡ i = omega (arith, found.1) in
      let test : (bit_at (get_or left (native_place found.0 / 64) 0) (native_place found.0 % 64) == 1) ≡ (bit_at (get_or right (native_place found.0 / 64) 0) (native_place found.0 % 64) == 1) = same found.0 in
      same_bit _ _ (bit_at-lt (get_or left k 0) i) (bit_at-lt (get_or right k 0) i) (rw (word, bit) at test)

  native_word : IsNativeSet left → IsNativeSet right → (k : ℕ) → k < 2 → get_or left k 0 ≡ get_or right k 0
  native_word one two k few =
      same_from_bits_below 64 (get_or left k 0) (get_or right k 0) (one.words k 0 (omega (arith, one.count))) (two.words k 0 (omega (arith, two.count))) (λ i below. native_bits k i few below)

  pub same_native_set : IsNativeSet left → IsNativeSet right → left ≡ right
  same_native_set one two =
      let a = native_word one two 0 (omega arith) in
      let b = native_word one two 1 (omega arith) in
      let words : get_or left 0 0 ∷ get_or left 1 0 ∷ [] ≡ get_or right 0 0 ∷ get_or right 1 0 ∷ [] = cc in
      two_words left one.count ∙ words ∙ sym (two_words right two.count)
