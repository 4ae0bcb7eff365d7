-- Whether an unblocked signal pends is whether there is a next one.
use Rattle.std.proofs.Common.{◌≡◌, ℕ, zero, suc, ◌+◌, ◌-◌, ◌*◌, ◌/◌, ◌%◌, ◌^◌, ◌<◌, ◌≤◌, Bool, true, false, ◌&&◌, List, [], ◌∷◌, length, map, get_or, refl, sym, ap, ◌∙◌, arith, Option, Some, None, zero-add}
use Rattle.std.specs.Prelude.{◌==◌, bit_and, not, find, is_none, is_some, nat_le}
use Rattle.std.specs.Int.{bit_at, trailing_zeros, w32}
use Rattle.std.specs.List.{Any}
use Rattle.std.proofs.lemmas.Bool.{eqb-true, leb-true, leb-false, le-leb}
use Rattle.std.proofs.lemmas.List.{get_or_default, get_or-map}
use Rattle.std.proofs.lemmas.List.Folds.{Any-from_list_any, list_any_at}
use Rattle.std.proofs.lemmas.Nat.Bits.{bit_at-lt, bit_at-zero, bit_at-trailing_zeros}
use Rattle.kernel_core.specs.RealTime.{is_real_time}
use Rattle.kernel_core.specs.declared.signal.Sig.{Sig}
use Rattle.kernel_core.specs.declared.signal.Sig.TheVariants as sigs
use Rattle.kernel_model.proofs.Posting.{place_below}
use Rattle.kernel_model.specs.Always.{IsMask}
use Rattle.kernel_model.specs.SignalRows.{is_deliverable, pending_set, pends}
use Rattle.kernel_model.specs.SignalSets.{SignalSet, has, place, without}
use Rattle.kernel_model.specs.State.{Signals}
use Rattle.number_tables.specs.Signals.{named_signals}
use Rattle.o32_model.specs.Suspending.{all_signals}
use Rattle.o32_turns.specs.Delivering.{next_signal}
use Rattle.signal_choice.proofs.Found.{among_all, none_of}
use Rattle.signal_choice.proofs.Left.{free_test, left_bit, left_word}
use Rattle.signal_choice.proofs.Pends.{has_pending, word_small}

-- so the choice by sets is the next signal
pub chosen : (signals : Signals) → find (λ (signal : Sig). has (pending_set signals) signal && not (has signals.mask signal)) all_signals ≡ next_signal signals
chosen signals = λ i. find (λ (signal : Sig). has_pending signals signal i && not (has signals.mask signal)) all_signals

-- Each place has a signal

abbrev counts : ℕ → List ℕ → Bool
counts n [] = true
counts n (x ∷ xs) = (x == n) && counts (n + 1) xs

left_of : (a b : Bool) → (a && b) ≡ true → a ≡ true
left_of true b h = refl
left_of false b h = h

right_of : (a b : Bool) → (a && b) ≡ true → b ≡ true
right_of true b h = h
right_of false b h = absurd cc

equal : (a b : ℕ) → (a == b) ≡ true → a ≡ b
equal a b e = grind (arith, e)

counted : (n : ℕ) (xs : List ℕ) (k : ℕ) → counts n xs ≡ true → k < length xs → get_or xs k 0 ≡ n + k
counted n [] k h inside = absurd (omega arith)
counted n (x ∷ xs) zero h inside = omega (arith, equal x n (left_of (x == n) (counts (n + 1) xs) h))
counted n (x ∷ xs) (suc k) h inside = omega (arith, counted (n + 1) xs k (right_of (x == n) (counts (n + 1) xs) h) (omega arith))

in_range : (number : ℕ) → 32 ≤ number → number ≤ 128 → is_real_time number ≡ true
in_range number low high =
    ap (λ (b : Bool). b && nat_le number 128) (le-leb 32 number low) ∙ le-leb number 128 high

abbrev real_time_at : (p : ℕ) → 31 ≤ p → p < 128 → Sig
real_time_at p low high = sigs.RealTime (record { number = p + 1; in_range = in_range (p + 1) (omega arith) (omega arith) })

at_place : (p : ℕ) → p < 128 → (signal : Sig) × (place signal ≡ p)
at_place p below = by (nat_le 31 p) refl where
  by : (b : Bool) → nat_le 31 p ≡ b → (signal : Sig) × (place signal ≡ p)
  by true e = (real_time_at p (leb-true 31 p e) below, let back : p + 1 - 1 ≡ p = omega arith in back)
  by false e =
      let inside : p < 31 = omega (arith, leb-false 31 p e) in
      (get_or named_signals p sigs.Hup, sym (get_or-map place named_signals p sigs.Hup 0 inside) ∙ counted 0 (map place named_signals) p refl inside ∙ zero-add p)

-- Words that are left

length-without : (left right : SignalSet) → length left ≡ length right → length (without left right) ≡ length left
length-without [] right same = refl
length-without (a ∷ left) [] same = absurd (omega arith)
length-without (a ∷ left) (b ∷ right) same =
    let more : length (without left right) ≡ length left = length-without left right (omega arith) in
    omega arith

not_zero : (number : ℕ) → not (number == 0) ≡ true → 0 < number
not_zero zero test = absurd cc
not_zero (suc number) test = omega arith

some_bit : (word i : ℕ) → bit_at word i ≡ 1 → not (word == 0) ≡ true
some_bit word i set = by (word == 0) refl where
  by : (b : Bool) → (word == 0) ≡ b → not b ≡ true
  by false at = refl
  by true at =
      let none : bit_at word i ≡ 0 = ap (λ (n : ℕ). bit_at n i) (eqb-true word 0 at) ∙ bit_at-zero i in
      absurd (omega arith)

one_of : (bit : ℕ) → (bit == 1) ≡ true → bit ≡ 1
one_of bit test = eqb-true bit 1 test

module _ (signals : Signals) (is : IsMask signals.mask) where
  abbrev left_set : SignalSet
  left_set = without (pending_set signals) signals.mask

  abbrev test : Sig → Bool
  test signal = pends signals signal && not (has signals.mask signal)

  mask_small : (k : ℕ) → k < 4 → get_or signals.mask k 0 < 2 ^ 32
  mask_small k few = is.0.1 k 0 (omega (arith, is.0.0))

  left_length : length left_set ≡ 4
  left_length = length-without (pending_set signals) signals.mask (sym is.0.0)

  left_word_at : (k : ℕ) → k < 4 → get_or left_set k 0 ≡ get_or (pending_set signals) k 0 - bit_and (get_or (pending_set signals) k 0) (get_or signals.mask k 0)
  left_word_at k few = left_word (pending_set signals) signals.mask k (sym is.0.0) few

  left_small : (k : ℕ) → k < 4 → get_or left_set k 0 < 2 ^ 32
  left_small k few = omega (arith, left_word_at k few, word_small signals k few)

  -- a bit that is left says that a signal pends and is not blocked
  left_test : (k i : ℕ) (signal : Sig) → k < 4 → i < 32 → place signal ≡ 32 * k + i → (bit_at (get_or left_set k 0) i == 1) ≡ test signal
  left_test k i signal few below at =
      let word : place signal / 32 ≡ k = omega arith in
      let bit : place signal % 32 ≡ i = omega arith in
      let pending = get_or (pending_set signals) k 0 in
      let blocked = get_or signals.mask k 0 in
      ap (λ (w : ℕ). bit_at w i == 1) (left_word_at k few)
      ∙ ap (λ (b : ℕ). b == 1) (left_bit pending blocked i (word_small signals k few) (mask_small k few) below)
      ∙ free_test (bit_at pending i) (bit_at blocked i) (bit_at-lt pending i) (bit_at-lt blocked i)
      ∙ ap (λ (n : ℕ). (bit_at (get_or (pending_set signals) n 0) i == 1) && not (bit_at (get_or signals.mask n 0) i == 1)) (sym word)
      ∙ ap (λ (n : ℕ). (bit_at (get_or (pending_set signals) (place signal / 32) 0) n == 1) && not (bit_at (get_or signals.mask (place signal / 32) 0) n == 1)) (sym bit)
      ∙ ap (λ (b : Bool). b && not (has signals.mask signal)) (has_pending signals signal)

  some_left : is_deliverable signals ≡ true → is_some (next_signal signals) ≡ true
  some_left more = by there.0 there.1 there.2 there.3 there.4 where
    there : Any (λ (word : ℕ). not (word == 0) ≡ true) left_set
    there = Any-from_list_any (λ (word : ℕ). not (word == 0)) left_set more

    of : (k : ℕ) → k < 4 → 0 < get_or left_set k 0 → is_some (next_signal signals) ≡ true
    of k few some =
        let lowest = bit_at-trailing_zeros w32 (get_or left_set k 0) some (left_small k few) in
        let i = trailing_zeros w32 (get_or left_set k 0) in
        let low : i < 32 = lowest.0 in
        let found = at_place (32 * k + i) (omega arith) in
        let passes : test found.0 ≡ true = sym (left_test k i found.0 few low found.1) ∙ ap (λ (b : ℕ). b == 1) lowest.1 in
        among_all test found.0 passes

    by : (k word : ℕ) → k < length left_set → get_or left_set k word ≡ word → not (word == 0) ≡ true → is_some (next_signal signals) ≡ true
    by k word inside at some =
        let few : k < 4 = omega (arith, left_length, inside) in
        let same : get_or left_set k 0 ≡ word = get_or_default left_set k 0 word inside ∙ at in
        of k few (not_zero (get_or left_set k 0) (ap (λ (w : ℕ). not (w == 0)) same ∙ some))

  none_left : is_deliverable signals ≡ false → next_signal signals ≡ None
  none_left none = none_of test all_signals (λ signal. by signal (test signal) refl) where
    of : (signal : Sig) → test signal ≡ true → is_deliverable signals ≡ true
    of signal passes =
        let k = place signal / 32 in
        let i = place signal % 32 in
        let few : k < 4 = omega (arith, place_below signal) in
        let set = one_of (bit_at (get_or left_set k 0) i) (left_test k i signal few (omega arith) (omega arith) ∙ passes) in
        list_any_at (λ (word : ℕ). not (word == 0)) left_set k 0 (omega (arith, few, left_length)) (some_bit (get_or left_set k 0) i set)

    by : (signal : Sig) (b : Bool) → test signal ≡ b → test signal ≡ false
    by signal false at = at
    by signal true at = let both : true ≡ false = sym (of signal at) ∙ none in cc both

some_is : {A : Type 0} (found : Option A) → is_some found ≡ true → false ≡ is_none found
some_is None there = absurd cc
some_is (Some x) there = refl

pub quiet : (signals : Signals) → IsMask signals.mask → not (is_deliverable signals) ≡ is_none (next_signal signals)
quiet signals is = by (is_deliverable signals) refl where
  by : (b : Bool) → is_deliverable signals ≡ b → not b ≡ is_none (next_signal signals)
  by true at = some_is (next_signal signals) (some_left signals is at)
  by false at = sym (ap (λ (found : Option Sig). is_none found) (none_left signals is at))
