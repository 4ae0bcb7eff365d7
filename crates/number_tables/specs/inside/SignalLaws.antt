-- The numbers of the signals and the signals of the numbers are inverse.
use Rattle.std.specs.Prelude.{◌≡◌, ℕ, ◌<◌, ◌≤◌, Bool, true, false, ◌==◌, nat_lt, nat_le, ◌&&◌, Some, None, List, [], ◌∷◌, refl}
use Rattle.std.proofs.Common.{sym, ◌∙◌, ap, arith}
use Rattle.std.proofs.Math.Bool.{Bool-set}
use Rattle.std.proofs.lemmas.Bool.Decides.{nat_tests}
use Rattle.kernel_core.specs.RealTime.{is_real_time}
use Rattle.kernel_core.specs.declared.signal.RealTime.{RealTime as RealTimeSignal}
use Rattle.kernel_core.specs.declared.signal.Sig.{Sig}
use Rattle.kernel_core.specs.declared.signal.Sig.TheVariants.{RealTime}
use Rattle.number_tables.specs.Numbered.{numbered_or}
use Rattle.number_tables.specs.inside.NumberedLaws.{numbered_or_number}
use Rattle.number_tables.specs.Signals.{o32_signal, native_signal, named_signals, real_time_if, real_time, signal_of_o32, signal_of_native}

-- the real-time signal of a real-time signal's number is that signal
real_time_again_if : (signal : RealTimeSignal) (b : Bool) (is : is_real_time signal.number ≡ b) → real_time_if signal.number b is ≡ Some (RealTime signal)
unfolding real_time_if
real_time_again_if signal true is =
    ap (λ (p : is_real_time signal.number ≡ true). Some (RealTime (record { number = signal.number; in_range = p })))
    (Bool-set _ _ is signal.in_range)
real_time_again_if signal false is = let no : true ≡ false = sym signal.in_range ∙ is in cc

pub real_time_again : (signal : RealTimeSignal) → real_time signal.number ≡ Some (RealTime signal)
unfolding real_time
real_time_again signal = real_time_again_if signal (is_real_time signal.number) refl

-- what is a real-time signal has its number
real_time_number_if : (number_of : Sig → ℕ) (same : (signal : RealTimeSignal) → number_of (RealTime signal) ≡ signal.number) (number : ℕ) (b : Bool) (is : is_real_time number ≡ b) (signal : Sig) → real_time_if number b is ≡ Some signal → number_of signal ≡ number
unfolding real_time_if
real_time_number_if number_of same number true is signal found =
    let at : RealTime (record { number = number; in_range = is }) ≡ signal = cc in
    ap number_of (sym at) ∙ same (record { number = number; in_range = is })
real_time_number_if number_of same number false is signal found = cc

real_time_number : (number_of : Sig → ℕ) (same : (signal : RealTimeSignal) → number_of (RealTime signal) ≡ signal.number) (number : ℕ) (signal : Sig) → real_time number ≡ Some signal → number_of signal ≡ number
unfolding real_time
real_time_number number_of same number signal found = real_time_number_if number_of same number (is_real_time number) refl signal found

-- the real-time signal of a number, where there is one, and where there is none
pub real_time_some : (number : ℕ) (signal : RealTimeSignal) → signal.number ≡ number → real_time number ≡ Some (RealTime signal)
real_time_some number signal same = rw (← same) (real_time_again signal)

real_time_none_if : (number : ℕ) (b : Bool) (is : is_real_time number ≡ b) → (32 ≤ number → 128 < number) → real_time_if number b is ≡ None
unfolding real_time_if
real_time_none_if number true is out =
    let both : (nat_le 32 number && nat_le number 128) ≡ true = is in
    absurd (grind (arith, nat_tests))
real_time_none_if number false is out = refl

pub real_time_none : (number : ℕ) → (32 ≤ number → 128 < number) → real_time number ≡ None
unfolding real_time
real_time_none number out = real_time_none_if number (is_real_time number) refl out

-- whether each of a list has a number below 32
abbrev pub are_below : (Sig → ℕ) → List Sig → Bool
are_below number_of [] = true
are_below number_of (first ∷ rest) = nat_lt (number_of first) 32 && are_below number_of rest

both_are : (a b : Bool) → (a && b) ≡ true → (a ≡ true) × (b ≡ true)
both_are true b both = (refl, both)
both_are false b both = cc

-- a number from 32 on is none of a list whose numbers are below 32
above_named : (number_of : Sig → ℕ) (signals : List Sig) → are_below number_of signals ≡ true → (number : ℕ) → 32 ≤ number → numbered_or number_of signals (real_time number) number ≡ real_time number
above_named number_of [] below number from = refl
above_named number_of (first ∷ rest) below number from =
    let parts = both_are (nat_lt (number_of first) 32) (are_below number_of rest) below in
    let small : nat_lt (number_of first) 32 ≡ true = parts.0 in
    let other : (number == number_of first) ≡ false = grind (arith, nat_tests) in
    rw other (above_named number_of rest parts.1 number from)

-- a real-time signal is found by its number
pub real_time_found : (number_of : Sig → ℕ) → are_below number_of named_signals ≡ true → (signal : RealTimeSignal) → numbered_or number_of named_signals (real_time signal.number) signal.number ≡ Some (RealTime signal)
real_time_found number_of below signal =
    let range : (nat_le 32 signal.number && nat_le signal.number 128) ≡ true = signal.in_range in
    let from : 32 ≤ signal.number = grind (arith, nat_tests) in
    above_named number_of named_signals below signal.number from ∙ real_time_again signal

-- a number by which a signal is found is the signal's, in each world
pub o32_number_found : (number : ℕ) (signal : Sig) → signal_of_o32 number ≡ Some signal → o32_signal signal ≡ number
o32_number_found number signal found = numbered_or_number o32_signal named_signals (real_time number) number signal (real_time_number o32_signal (λ _. refl) number signal) found

pub native_number_found : (number : ℕ) (signal : Sig) → signal_of_native number ≡ Some signal → native_signal signal ≡ number
native_number_found number signal found = numbered_or_number native_signal named_signals (real_time number) number signal (real_time_number native_signal (λ _. refl) number signal) found

-- each signal is found by its number, in each world
pub o32_signal_found : (signal : Sig) → signal_of_o32 (o32_signal signal) ≡ Some signal
o32_signal_found (RealTime signal) = real_time_found o32_signal refl signal
o32_signal_found _ = refl

pub native_signal_found : (signal : Sig) → signal_of_native (native_signal signal) ≡ Some signal
native_signal_found (RealTime signal) = real_time_found native_signal refl signal
native_signal_found _ = refl
