-- Numbers and names are inverse, in each world.
use Rattle.std.specs.Prelude.{◌≡◌, ℕ, ◌/◌, ◌%◌, true, Some, refl}
use Rattle.std.proofs.Common.{arith}
use Rattle.kernel_core.specs.declared.sa_flags.SaFlags.{SaFlags}
use Rattle.kernel_core.specs.inside.BitLaws.{one_if-le, is_one}
use Rattle.number_tables.specs.inside.FlagLaws.{stands_for-number, stands_for-value}
use Rattle.number_tables.specs.SaNumbers.{o32_sa, o32_sa_read, sa_of_o32, native_sa, native_sa_read, sa_of_native}

pub o32_sa_number : (number : ℕ) (flags : SaFlags) → sa_of_o32 number ≡ Some flags → o32_sa flags ≡ number
o32_sa_number number flags at = stands_for-number o32_sa (λ _. true) o32_sa_read number flags at

o32_sa_read_again : (flags : SaFlags) → o32_sa_read (o32_sa flags) ≡ flags
o32_sa_read_again flags = λ i. record {
  nocldstop = (is_one flags.nocldstop (o32_sa flags / 1 % 2) (omega (arith, one_if-le))) i;
  siginfo = (is_one flags.siginfo (o32_sa flags / 8 % 2) (omega (arith, one_if-le))) i;
  nocldwait = (is_one flags.nocldwait (o32_sa flags / 0x10000 % 2) (omega (arith, one_if-le))) i;
  onstack = (is_one flags.onstack (o32_sa flags / 0x08000000 % 2) (omega (arith, one_if-le))) i;
  restart = (is_one flags.restart (o32_sa flags / 0x10000000 % 2) (omega (arith, one_if-le))) i;
  nodefer = (is_one flags.nodefer (o32_sa flags / 0x40000000 % 2) (omega (arith, one_if-le))) i;
  resethand = (is_one flags.resethand (o32_sa flags / 0x80000000 % 2) (omega (arith, one_if-le))) i;
}

pub o32_sa_found : (flags : SaFlags) → sa_of_o32 (o32_sa flags) ≡ Some flags
o32_sa_found flags = stands_for-value o32_sa (λ _. true) o32_sa_read flags (o32_sa_read_again flags) refl

pub native_sa_number : (number : ℕ) (flags : SaFlags) → sa_of_native number ≡ Some flags → native_sa flags ≡ number
native_sa_number number flags at = stands_for-number native_sa (λ _. true) native_sa_read number flags at

native_sa_read_again : (flags : SaFlags) → native_sa_read (native_sa flags) ≡ flags
native_sa_read_again flags = λ i. record {
  nocldstop = (is_one flags.nocldstop (native_sa flags / 1 % 2) (omega (arith, one_if-le))) i;
  siginfo = (is_one flags.siginfo (native_sa flags / 4 % 2) (omega (arith, one_if-le))) i;
  nocldwait = (is_one flags.nocldwait (native_sa flags / 2 % 2) (omega (arith, one_if-le))) i;
  onstack = (is_one flags.onstack (native_sa flags / 0x08000000 % 2) (omega (arith, one_if-le))) i;
  restart = (is_one flags.restart (native_sa flags / 0x10000000 % 2) (omega (arith, one_if-le))) i;
  nodefer = (is_one flags.nodefer (native_sa flags / 0x40000000 % 2) (omega (arith, one_if-le))) i;
  resethand = (is_one flags.resethand (native_sa flags / 0x80000000 % 2) (omega (arith, one_if-le))) i;
}

pub native_sa_found : (flags : SaFlags) → sa_of_native (native_sa flags) ≡ Some flags
native_sa_found flags = stands_for-value native_sa (λ _. true) native_sa_read flags (native_sa_read_again flags) refl
