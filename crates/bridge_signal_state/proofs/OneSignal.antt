-- The set of one signal, and the first of it that pends.
use Rattle.std.proofs.Common.{◌≡◌, ◌≢◌, ℕ, zero, suc, ◌+◌, ◌/◌, ◌%◌, ◌^◌, ◌<◌, ◌≤◌, Bool, true, false, ◌&&◌, List, [], ◌∷◌, get_or, Option, Some, None, refl, sym, ap, ◌∙◌, arith, lit<, if◌then◌else◌}
use Rattle.std.specs.Prelude.{◌==◌, filter_map, find}
use Rattle.layouts.specs.Termios.{count_up}
use Rattle.std.specs.Int.{bit_at}
use Rattle.std.specs.List.{cons_option}
use Rattle.std.proofs.Math.Nat.{pow-succ'}
use Rattle.std.proofs.Math.Pow.{pow_mono}
use Rattle.std.proofs.lemmas.Bool.Decides.{nat_tests}
use Rattle.std.proofs.lemmas.Nat.Bits.{bit_at_lowest, bit_at-suc}
use Rattle.kernel_core.specs.declared.signal.Sig.{Sig}
use Rattle.kernel_core.specs.declared.signal.Sig.TheVariants as sigs
use Rattle.kernel_model.proofs.Posting.{place_below}
use Rattle.kernel_model.specs.Always.{IsSet}
use Rattle.kernel_model.specs.SignalRows.{first_pending, pends}
use Rattle.kernel_model.specs.SignalSets.{has, only, place}
use Rattle.kernel_model.specs.State.{Signals}
use Rattle.native_calls.specs.Signals.{native_order}
use Rattle.native_signal.proofs.PlaceNumbers.{number_of_place}
use Rattle.number_tables.specs.Signals.{native_signal, o32_signal, real_time, real_time_if, signal_of_native, signal_of_o32}
use Rattle.number_tables.specs.inside.SignalLaws.{native_signal_found, o32_signal_found}
use Rattle.signal_sets.proofs.SameSets.{real_time_range}
use Rattle.signal_sets.proofs.Turned.{four_words_small}

-- The bits of a power of 2

pub no_bit : (b : ℕ) → bit_at 0 b ≡ 0
no_bit zero = bit_at_lowest 0
no_bit (suc b) = bit_at-suc 0 b ∙ no_bit b

half_power : (a : ℕ) → 2 ^ suc a / 2 ≡ 2 ^ a
half_power a = let twice = pow-succ' 2 a in omega arith

even_power : (a : ℕ) → 2 ^ suc a % 2 ≡ 0
even_power a = let twice = pow-succ' 2 a in omega arith

own_bit : (a : ℕ) → bit_at (2 ^ a) a ≡ 1
own_bit zero = bit_at_lowest 1
own_bit (suc a) = bit_at-suc (2 ^ suc a) a ∙ ap (λ n. bit_at n a) (half_power a) ∙ own_bit a

other_bit : (a b : ℕ) → a ≢ b → bit_at (2 ^ a) b ≡ 0
other_bit zero zero differ = absurd (differ refl)
other_bit zero (suc b) differ = bit_at-suc 1 b ∙ no_bit b
other_bit (suc a) zero differ = bit_at_lowest (2 ^ suc a) ∙ even_power a
other_bit (suc a) (suc b) differ =
    bit_at-suc (2 ^ suc a) b ∙ ap (λ n. bit_at n b) (half_power a) ∙ other_bit a b (λ same. differ (ap (λ n. suc n) same))

-- A signal is known by its place.

some_is : {A : Type 0} {a b : A} → Some a ≡ Some b → a ≡ b
some_is same = cc

same_signal : (one other : Sig) → place one ≡ place other → one ≡ other
same_signal one other same =
    let numbers : o32_signal one ≡ o32_signal other = number_of_place one ∙ ap (λ n. n + 1) same ∙ sym (number_of_place other) in
    some_is (sym (o32_signal_found one) ∙ ap signal_of_o32 numbers ∙ o32_signal_found other)

-- The set of one has no other.

abbrev word_at : ℕ → ℕ → ℕ
word_at p k = if k == p / 32 then 2 ^ (p % 32) else 0

four_at : (p k : ℕ) → k < 4 → get_or (word_at p 0 ∷ word_at p 1 ∷ word_at p 2 ∷ word_at p 3 ∷ []) k 0 ≡ word_at p k
four_at p zero low = refl
four_at p (suc zero) low = refl
four_at p (suc (suc zero)) low = refl
four_at p (suc (suc (suc zero))) low = refl
four_at p (suc (suc (suc (suc k)))) low = absurd (omega arith)

one_is : (n : ℕ) → n ≡ 1 → (n == 1) ≡ true
one_is n e = rw e refl

one_of : (n : ℕ) → (n == 1) ≡ true → n ≡ 1
one_of n e = grind (arith, nat_tests)

same_number : (a b : ℕ) → a ≡ b → (a == b) ≡ true
same_number a b e = grind (arith, nat_tests)

own_word : (p : ℕ) → word_at p (p / 32) ≡ 2 ^ (p % 32)
own_word p = ap (λ (b : Bool). if b then 2 ^ (p % 32) else 0) (same_number (p / 32) (p / 32) refl)

has_only : (signal : Sig) (k : ℕ) → place signal / 32 ≡ k → bit_at (get_or (only signal) (place signal / 32) 0) (place signal % 32) ≡ 1
has_only signal k e =
    let low : place signal / 32 < 4 = omega (arith, place_below signal) in
    ap (λ n. bit_at n (place signal % 32)) (four_at (place signal) (place signal / 32) low ∙ own_word (place signal)) ∙ own_bit (place signal % 32)

pub has_itself : (signal : Sig) → has (only signal) signal ≡ true
has_itself signal = one_is _ (has_only signal (place signal / 32) refl)

apart_numbers : (n : ℕ) → n ≡ 0 → n ≡ 1 → ⊥
apart_numbers n none one = omega (arith, none, one)

bit_none : (b : ℕ) → bit_at 0 b ≡ 1 → ⊥
bit_none b e = apart_numbers _ (no_bit b) e

true_false : true ≡ false → ⊥
true_false e = absurd cc

places_same : (p q : ℕ) → bit_at (word_at p (q / 32)) (q % 32) ≡ 1 → p ≡ q
places_same p q = by (q / 32 == p / 32) refl where
  words : (q / 32 == p / 32) ≡ true → q / 32 ≡ p / 32
  words e = grind (arith, nat_tests)

  bits : (same : Bool) → (p % 32 == q % 32) ≡ same → bit_at (2 ^ (p % 32)) (q % 32) ≡ 1 → p % 32 ≡ q % 32
  bits true e set = grind (arith, nat_tests)
  bits false e set =
      absurd (apart_numbers _ (other_bit (p % 32) (q % 32) (λ same. true_false (sym (same_number (p % 32) (q % 32) same) ∙ e))) set)

  by : (b : Bool) → (q / 32 == p / 32) ≡ b → bit_at (if b then 2 ^ (p % 32) else 0) (q % 32) ≡ 1 → p ≡ q
  by true e set = let first = words e in let second = bits (p % 32 == q % 32) refl set in omega arith
  by false e set = absurd (bit_none (q % 32) set)

pub has_no_other : (signal other : Sig) → has (only signal) other ≡ true → other ≡ signal
has_no_other signal other there =
    let p = place signal in
    let q = place other in
    let low : q / 32 < 4 = omega (arith, place_below other) in
    let set : bit_at (word_at p (q / 32)) (q % 32) ≡ 1 = ap (λ n. bit_at n (q % 32)) (sym (four_at p (q / 32) low)) ∙ one_of _ there in
    sym (same_signal signal other (places_same p q set))

word_small : (p k : ℕ) → word_at p k < 2 ^ 32
word_small p k = by (k == p / 32) where
  power : 2 ^ (p % 32) < 2 ^ 32
  power = omega (arith, pow_mono {i = p % 32} {j = 31} (omega arith))

  by : (b : Bool) → (if b then 2 ^ (p % 32) else 0) < 2 ^ 32
  by true = power
  by false = lit< tt

pub only_is_set : (signal : Sig) → IsSet (only signal)
only_is_set signal = four_words_small _ _ _ _ (word_small (place signal) 0) (word_small (place signal) 1) (word_small (place signal) 2) (word_small (place signal) 3)

-- The first that passes a test, where no other signal does

none_passes : (test : Sig → Bool) (signals : List Sig) → ((signal : Sig) → test signal ≡ false) → find test signals ≡ None
none_passes test [] none = refl
none_passes test (first ∷ rest) none = rw (none first) (none_passes test rest none)

-- the signals of so many native numbers from one on
abbrev order_from : ℕ → ℕ → List Sig
order_from first count = filter_map signal_of_native (count_up first count)

whole_order : order_from 1 128 ≡ native_order
unfolding native_order real_time real_time_if
whole_order = refl

one_more : (first count : ℕ) → order_from first (suc count) ≡ cons_option (signal_of_native first) (order_from (suc first) count)
one_more first count = refl

module _ (test : Sig → Bool) (signal : Sig) (passes : test signal ≡ true) (alone : (other : Sig) → test other ≡ true → other ≡ signal) where
  cons_finds : (found : Option Sig) (rest : List Sig) → find test rest ≡ Some signal → find test (cons_option found rest) ≡ Some signal
  cons_finds None rest later = later
  cons_finds (Some one) rest later = by (test one) refl where
    by : (b : Bool) → test one ≡ b → find test (one ∷ rest) ≡ Some signal
    by true t = rw t (ap Some (alone one t))
    by false t = rw t later

  own_finds : (rest : List Sig) → find test (signal ∷ rest) ≡ Some signal
  own_finds rest = rw passes refl

  is_first : (first : ℕ) → (native_signal signal == first) ≡ true → native_signal signal ≡ first
  is_first first e = grind (arith, nat_tests)

  is_later : (first : ℕ) → (native_signal signal == first) ≡ false → first ≤ native_signal signal → suc first ≤ native_signal signal
  is_later first e low = grind (arith, nat_tests)

  finds_by : (first count : ℕ) (b : Bool) → (native_signal signal == first) ≡ b → first ≤ native_signal signal
      → (suc first ≤ native_signal signal → find test (order_from (suc first) count) ≡ Some signal) → find test (order_from first (suc count)) ≡ Some signal
  finds_by first count true e low more =
      ap (λ order. find test order) (one_more first count)
      ∙ ap (λ found. find test (cons_option found (order_from (suc first) count))) (ap signal_of_native (sym (is_first first e)) ∙ native_signal_found signal)
      ∙ own_finds (order_from (suc first) count)
  finds_by first count false e low more =
      ap (λ order. find test order) (one_more first count)
      ∙ cons_finds (signal_of_native first) (order_from (suc first) count) (more (is_later first e low))

  pub finds : (count first : ℕ) → first ≤ native_signal signal → native_signal signal < first + count → find test (order_from first count) ≡ Some signal
  finds zero first low high = absurd (omega arith)
  finds (suc count) first low high =
      finds_by first count (native_signal signal == first) refl low (λ later. finds count (suc first) later (omega arith))

number_above : (signal : Sig) → 1 ≤ native_signal signal
number_above (sigs.RealTime signal) = omega (arith, real_time_range signal)
number_above _ = lit< tt

number_below : (signal : Sig) → native_signal signal < 129
number_below (sigs.RealTime signal) = omega (arith, real_time_range signal)
number_below _ = lit< tt

first_and : (a b : Bool) → (a && b) ≡ true → a ≡ true
first_and true b e = refl
first_and false b e = absurd cc

second_false : (a b : Bool) → (a ≡ true → b ≡ false) → (a && b) ≡ false
second_false true b none = none refl
second_false false b none = refl

both_true : (a b : Bool) → a ≡ true → b ≡ true → (a && b) ≡ true
both_true true b p q = q
both_true false b p q = absurd cc

-- of the set of one signal, that one is the first that pends, or none
pub pending_first : (signals : Signals) (signal : Sig) → pends signals signal ≡ true → first_pending signals native_order (only signal) ≡ Some signal
pending_first signals signal there =
    let test : Sig → Bool = λ s. has (only signal) s && pends signals s in
    ap (λ order. find test order) (sym whole_order)
    ∙ finds test signal (both_true _ _ (has_itself signal) there) (λ other passes. has_no_other signal other (first_and _ _ passes)) 128 1 (number_above signal) (omega (arith, number_below signal))

pub pending_none : (signals : Signals) (signal : Sig) → pends signals signal ≡ false → first_pending signals native_order (only signal) ≡ None
pending_none signals signal not_there =
    none_passes (λ s. has (only signal) s && pends signals s) native_order
    (λ s. second_false _ _ (λ there. ap (pends signals) (has_no_other signal s there) ∙ not_there))
