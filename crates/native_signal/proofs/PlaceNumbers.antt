-- The place of a signal, and its number for an o32 program.
use Rattle.std.proofs.Common.{◌≡◌, ℕ, ◌+◌, ◌-◌, Bool, true, false, ◌&&◌, refl, arith}
use Rattle.std.specs.Prelude.{nat_le}
use Rattle.std.proofs.lemmas.Bool.{leb-true}
use Rattle.kernel_core.specs.RealTime.{is_real_time}
use Rattle.kernel_core.specs.declared.signal.Sig.{Sig}
use Rattle.kernel_core.specs.declared.signal.Sig.TheVariants as sigs
use Rattle.kernel_model.proofs.Posting.{place_below}
use Rattle.kernel_model.specs.SignalSets.{place}
use Rattle.number_tables.specs.Signals.{o32_signal}

real_time_number : (number : ℕ) → is_real_time number ≡ true → number ≡ number - 1 + 1
real_time_number number e = by (nat_le 32 number) (nat_le number 128) refl e where
  by : (a b : Bool) → nat_le 32 number ≡ a → (a && b) ≡ true → number ≡ number - 1 + 1
  by true b p h = omega (arith, leb-true 32 number p)
  by false b p h = absurd cc

pub number_of_place : (signal : Sig) → o32_signal signal ≡ place signal + 1
number_of_place (sigs.RealTime signal) = real_time_number signal.number signal.in_range
number_of_place _ = refl

pub ruleset numbers = (number_of_place, place_below)
