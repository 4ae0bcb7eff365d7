-- Numbers and names are inverse, in each world.
use Rattle.std.specs.Prelude.{◌≡◌, ℕ, ◌/◌, ◌%◌, Bool, true, false, ◌||◌, Some, refl}
use Rattle.std.proofs.Common.{sym, ◌∙◌, ap, arith}
use Rattle.kernel_core.specs.declared.poll_bits.PollBits.{PollBits}
use Rattle.kernel_core.specs.inside.BitLaws.{one_if-le, is_one}
use Rattle.number_tables.specs.inside.FlagLaws.{stands_for-number, stands_for-value, stands_for-read}
use Rattle.number_tables.specs.PollNumbers.{o32_poll, o32_poll_read, poll_of_o32, native_poll, native_poll_read, poll_of_native}

both_output : (a b : Bool) → a ≡ b → (a || b) ≡ a
both_output true b same = refl
both_output false b same = sym same

both_wrnorm : (a b : Bool) → a ≡ b → (a || b) ≡ b
both_wrnorm true b same = same
both_wrnorm false b same = refl

pub o32_poll_number : (number : ℕ) (flags : PollBits) → poll_of_o32 number ≡ Some flags → o32_poll flags ≡ number
o32_poll_number number flags at = stands_for-number o32_poll (λ _. true) o32_poll_read number flags at

o32_poll_read_again : (flags : PollBits) → flags.output ≡ flags.wrnorm → o32_poll_read (o32_poll flags) ≡ flags
o32_poll_read_again flags paired = λ i. record {
  input = (is_one flags.input (o32_poll flags / 1 % 2) (omega (arith, one_if-le))) i;
  pri = (is_one flags.pri (o32_poll flags / 2 % 2) (omega (arith, one_if-le))) i;
  output = (is_one (flags.output || flags.wrnorm) (o32_poll flags / 4 % 2) (omega (arith, one_if-le)) ∙ both_output flags.output flags.wrnorm paired) i;
  wrnorm = (is_one (flags.output || flags.wrnorm) (o32_poll flags / 4 % 2) (omega (arith, one_if-le)) ∙ both_wrnorm flags.output flags.wrnorm paired) i;
  err = (is_one flags.err (o32_poll flags / 8 % 2) (omega (arith, one_if-le))) i;
  hup = (is_one flags.hup (o32_poll flags / 0x10 % 2) (omega (arith, one_if-le))) i;
  nval = (is_one flags.nval (o32_poll flags / 0x20 % 2) (omega (arith, one_if-le))) i;
  rdnorm = (is_one flags.rdnorm (o32_poll flags / 0x40 % 2) (omega (arith, one_if-le))) i;
  rdband = (is_one flags.rdband (o32_poll flags / 0x80 % 2) (omega (arith, one_if-le))) i;
  wrband = (is_one flags.wrband (o32_poll flags / 0x100 % 2) (omega (arith, one_if-le))) i;
}

pub o32_poll_found : (flags : PollBits) → flags.output ≡ flags.wrnorm → poll_of_o32 (o32_poll flags) ≡ Some flags
o32_poll_found flags paired = stands_for-value o32_poll (λ _. true) o32_poll_read flags (o32_poll_read_again flags paired) refl

pub native_poll_number : (number : ℕ) (flags : PollBits) → poll_of_native number ≡ Some flags → native_poll flags ≡ number
native_poll_number number flags at = stands_for-number native_poll (λ _. true) native_poll_read number flags at

native_poll_read_again : (flags : PollBits) → native_poll_read (native_poll flags) ≡ flags
native_poll_read_again flags = λ i. record {
  input = (is_one flags.input (native_poll flags / 1 % 2) (omega (arith, one_if-le))) i;
  pri = (is_one flags.pri (native_poll flags / 2 % 2) (omega (arith, one_if-le))) i;
  output = (is_one flags.output (native_poll flags / 4 % 2) (omega (arith, one_if-le))) i;
  err = (is_one flags.err (native_poll flags / 8 % 2) (omega (arith, one_if-le))) i;
  hup = (is_one flags.hup (native_poll flags / 0x10 % 2) (omega (arith, one_if-le))) i;
  nval = (is_one flags.nval (native_poll flags / 0x20 % 2) (omega (arith, one_if-le))) i;
  rdnorm = (is_one flags.rdnorm (native_poll flags / 0x40 % 2) (omega (arith, one_if-le))) i;
  rdband = (is_one flags.rdband (native_poll flags / 0x80 % 2) (omega (arith, one_if-le))) i;
  wrnorm = (is_one flags.wrnorm (native_poll flags / 0x100 % 2) (omega (arith, one_if-le))) i;
  wrband = (is_one flags.wrband (native_poll flags / 0x200 % 2) (omega (arith, one_if-le))) i;
}

pub native_poll_found : (flags : PollBits) → poll_of_native (native_poll flags) ≡ Some flags
native_poll_found flags = stands_for-value native_poll (λ _. true) native_poll_read flags (native_poll_read_again flags) refl

pub o32_poll_paired : (number : ℕ) (flags : PollBits) → poll_of_o32 number ≡ Some flags → flags.output ≡ flags.wrnorm
o32_poll_paired number flags at =
    let e : o32_poll_read number ≡ flags = stands_for-read o32_poll (λ _. true) o32_poll_read number flags at in
    ap (λ (read : PollBits). read.output) (sym e) ∙ ap (λ (read : PollBits). read.wrnorm) e
