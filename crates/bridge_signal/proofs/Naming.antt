-- What a program's number of a signal names natively.
use Rattle.std.proofs.Common.{◌≡◌, ℕ, ◌%◌, ◌^◌, ◌≤◌, Bool, true, false, ◌&&◌, Some, None, refl, sym, ap, ◌∙◌, arith, if◌then◌else◌}
use Rattle.std.specs.Prelude.{◌==◌, nat_le}
use Rattle.std.proofs.lemmas.Bool.{leb-true}
use Rattle.std.proofs.lemmas.Bool.Decides.{nat_tests}
use Rattle.kernel_core.specs.RealTime.{is_real_time}
use Rattle.kernel_core.specs.declared.signal.Sig.{Sig}
use Rattle.kernel_core.specs.declared.signal.Sig.TheVariants as sigs
use Rattle.kernel_model.specs.SignalRows.{Nothing}
use Rattle.native_calls.specs.Arguments.{low_word}
use Rattle.native_calls.specs.SignalBytes.{named_by, named_if}
use Rattle.number_tables.specs.Signals.{native_signal, real_time, signal_of_native, signal_of_o32}
use Rattle.number_tables.specs.inside.SignalLaws.{native_signal_found, real_time_none}
use Rattle.o32_model.specs.Sending.{listed, named}

-- a number that names a signal or none that is listed
named_some : (number : ℕ) → (number == 0) ≡ false → named number ≡ listed (signal_of_o32 number)
named_some number some = ap (λ (b : Bool). if b then Nothing else listed (signal_of_o32 number)) some

named_natively : (number : ℕ) → (number == 0) ≡ false → named_by number ≡ named_if (signal_of_native number)
named_natively number some = ap (λ (b : Bool). if b then Nothing else named_if (signal_of_native number)) some

pub unlisted : (number : ℕ) → (number == 0) ≡ false → None ≡ signal_of_o32 number → named_if (real_time 129) ≡ named number
unlisted number some none =
    ap named_if (real_time_none 129 (λ high. omega arith)) ∙ ap listed none ∙ sym (named_some number some)

-- native numbers of signals lie from 1 to 128

abbrev IsSignal : ℕ → Type 0
IsSignal number = (1 ≤ number) × (number ≤ 128)

real_time_range : (number : ℕ) → is_real_time number ≡ true → IsSignal number
real_time_range number e = by (nat_le 32 number) (nat_le number 128) refl refl e where
  by : (a b : Bool) → nat_le 32 number ≡ a → nat_le number 128 ≡ b → (a && b) ≡ true → IsSignal number
  by true true p q h = (omega (arith, leb-true 32 number p), leb-true number 128 q)
  by true false p q h = absurd cc
  by false b p q h = absurd cc

native_range : (signal : Sig) → IsSignal (native_signal signal)
native_range (sigs.RealTime signal) = real_time_range signal.number signal.in_range
native_range _ = (omega arith, omega arith)

apart : (number : ℕ) → 1 ≤ number → (number == 0) ≡ false
apart number some = grind (arith, nat_tests)

stays : (number : ℕ) → number ≤ 128 → number % 2 ^ 32 ≡ number
stays number small = omega arith

pub listed_signal : (number native : ℕ) (signal : Sig) → (number == 0) ≡ false → Some signal ≡ signal_of_o32 number → native ≡ native_signal signal → named_by (low_word native) ≡ named number
listed_signal number native signal some there is =
    let range = native_range signal in
    ap (λ (n : ℕ). named_by (low_word n)) is ∙ ap named_by (stays (native_signal signal) range.1)
    ∙ named_natively (native_signal signal) (apart (native_signal signal) range.0) ∙ ap named_if (native_signal_found signal)
    ∙ ap listed there ∙ sym (named_some number some)
