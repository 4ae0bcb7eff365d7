-- What is found among all signals.
use Rattle.std.proofs.Common.{◌≡◌, ℕ, zero, suc, ◌+◌, ◌/◌, ◌%◌, ◌^◌, ◌<◌, ◌≤◌, Bool, true, false, List, [], ◌∷◌, refl, sym, ap, ◌∙◌, arith, Option, Some, None, inl, inr}
use Rattle.std.specs.Prelude.{◌==◌, ◌&&◌, ◌||◌, find, is_some, slice_index, if◌then◌else◌}
use Rattle.std.specs.List.{cons_option, filter, list_any}
use Rattle.std.proofs.lemmas.Bool.{and_from, and_left, and_right, cases_eq, eq-eqb, eqb-true}
use Rattle.kernel_core.specs.declared.signal.Sig.{Sig}
use Rattle.kernel_model.proofs.Posting.{place_below}
use Rattle.kernel_model.specs.SignalSets.{SignalSet, has, place}
use Rattle.native_signal.proofs.PlaceNumbers.{number_of_place}
use Rattle.number_tables.specs.Signals.{o32_signal, signal_of_o32}
use Rattle.number_tables.specs.inside.SignalLaws.{o32_signal_found}
use Rattle.o32_model.specs.Suspending.{all_signals, signals_from}

found_option : (p : Sig → Bool) (first : Option Sig) (rest : List Sig) → is_some (find p rest) ≡ true → is_some (find p (cons_option first rest)) ≡ true
found_option p None rest e = e
found_option p (Some signal) rest e = by (p signal) where
  by : (b : Bool) → is_some (if b then Some signal else find p rest) ≡ true
  by true = refl
  by false = e

found_first : (p : Sig → Bool) (signal : Sig) (rest : List Sig) → p signal ≡ true → is_some (find p (signal ∷ rest)) ≡ true
found_first p signal rest passes = ap (λ (b : Bool). is_some (if b then Some signal else find p rest)) passes

pub found_among : (p : Sig → Bool) (count from n : ℕ) (signal : Sig) → from ≤ n → n < from + count → signal_of_o32 n ≡ Some signal → p signal ≡ true
    → is_some (find p (signals_from from count)) ≡ true
unfolding signals_from
found_among p zero from n signal low high is passes = absurd (omega arith)
found_among p (suc count) from n signal low high is passes =
    elim (cases_eq from n) [
      | inl same ↦
          ap (λ (o : Option Sig). is_some (find p (cons_option o (signals_from (from + 1) count)))) (ap signal_of_o32 same ∙ is)
          ∙ found_first p signal (signals_from (from + 1) count) passes
      | inr other ↦
          found_option p (signal_of_o32 from) (signals_from (from + 1) count)
          (found_among p count (from + 1) n signal (omega (arith, other)) (omega arith) is passes)
    ]

pub none_of : (p : Sig → Bool) (signals : List Sig) → ((signal : Sig) → p signal ≡ false) → find p signals ≡ None
none_of p [] fails = refl
none_of p (signal ∷ signals) fails =
    ap (λ (b : Bool). if b then Some signal else find p signals) (fails signal) ∙ none_of p signals fails

-- a signal is among all
pub among_all : (p : Sig → Bool) (signal : Sig) → p signal ≡ true → is_some (find p all_signals) ≡ true
among_all p signal passes =
    found_among p 128 1 (o32_signal signal) signal (omega (arith, number_of_place signal)) (omega (arith, number_of_place signal, place_below signal))
    (o32_signal_found signal) passes

-- of those that pass one test some passes another where one is found that passes both

either : (q : Sig → Bool) (signal : Sig) (passing : List Sig) (found : Option Sig) → list_any q passing ≡ is_some found → (c : Bool)
    → (c || list_any q passing) ≡ is_some (if c then Some signal else found)
either q signal passing found rest true = refl
either q signal passing found rest false = rest

first_any : (q : Sig → Bool) (signal : Sig) (passing : List Sig) (found : Option Sig) → list_any q passing ≡ is_some found → (b : Bool)
    → list_any q (if b then signal ∷ passing else passing) ≡ is_some (if b && q signal then Some signal else found)
first_any q signal passing found rest true = either q signal passing found rest (q signal)
first_any q signal passing found rest false = rest

pub any_of : (p q : Sig → Bool) (signals : List Sig) → list_any q (filter p signals) ≡ is_some (find (λ (signal : Sig). p signal && q signal) signals)
any_of p q [] = refl
any_of p q (signal ∷ signals) =
    first_any q signal (filter p signals) (find (λ (s : Sig). p s && q s) signals) (any_of p q signals) (p signal)

-- whether a set has the signal of a place
abbrev has_at : SignalSet → ℕ → Bool
has_at set place = slice_index set (place / 32) / 2 ^ (place % 32) % 2 == 1

abbrev same : Sig → Sig → Bool
same signal other = place other == place signal

both : (set : SignalSet) (signal : Sig) → has set signal ≡ true → (has set signal && same signal signal) ≡ true
both set signal there = and_from (has set signal) (same signal signal) there (eq-eqb (place signal) (place signal) refl)

apart : (set : SignalSet) (signal other : Sig) → has set signal ≡ false → (b : Bool) → same signal other ≡ b → (has set other && same signal other) ≡ false
apart set signal other none false e = and_right (has set other) (same signal other) e
apart set signal other none true e =
    and_left (has set other) (same signal other) (ap (has_at set) (eqb-true (place other) (place signal) e) ∙ none)

-- the signals of a set are those that it has
pub listed : (set : SignalSet) (signal : Sig) → list_any (λ (other : Sig). place other == place signal) (filter (λ (other : Sig). has set other) all_signals) ≡ has set signal
listed set signal = any_of (λ (other : Sig). has set other) (same signal) all_signals ∙ by (has set signal) refl where
  by : (b : Bool) → has set signal ≡ b → is_some (find (λ (other : Sig). has set other && same signal other) all_signals) ≡ has set signal
  by true there = among_all (λ (other : Sig). has set other && same signal other) signal (both set signal there) ∙ sym there
  by false none =
      ap (λ (o : Option Sig). is_some o) (none_of (λ (other : Sig). has set other && same signal other) all_signals (λ other. apart set signal other none (same signal other) refl))
      ∙ sym none
