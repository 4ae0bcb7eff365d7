-- The bits in which `PollBits` are kept.
use Rattle.std.specs.Prelude.{◌≡◌, ℕ, ◌+◌, ◌*◌, ◌/◌, ◌%◌, ◌<◌}
use Rattle.std.proofs.Common.{arith, sym, ◌∙◌, ap}
use Rattle.kernel_core.specs.Bits.{one_if}
use Rattle.kernel_core.specs.inside.BitLaws.{one_if-has, has_below, one_if-le, is_one}
use Rattle.kernel_core.specs.PollSet.{PollSet, poll_set}

-- the bits of a set
abbrev pub poll_bits : PollSet → ℕ
poll_bits set =
    one_if set.input
    + 2 * one_if set.pri
    + 4 * one_if set.output
    + 8 * one_if set.err
    + 16 * one_if set.hup
    + 32 * one_if set.nval
    + 64 * one_if set.rdnorm
    + 128 * one_if set.rdband
    + 256 * one_if set.wrnorm
    + 512 * one_if set.wrband

-- are those from which the set was read
pub poll_bits_again : (bits : ℕ) → bits < 1024 → poll_bits (poll_set bits) ≡ bits
poll_bits_again bits small = omega (arith, one_if-has)

pub poll_bits_of : (bits : ℕ) (set : PollSet) → bits < 1024 → poll_set bits ≡ set → poll_bits set ≡ bits
poll_bits_of bits set small is = ap poll_bits (sym is) ∙ poll_bits_again bits small

-- bits without a name say nothing
pub poll_set_named : (bits : ℕ) → poll_set (bits % 1024) ≡ poll_set bits
poll_set_named bits = λ i. record {
  input = has_below bits 1024 1 (omega arith) i;
  pri = has_below bits 1024 2 (omega arith) i;
  output = has_below bits 1024 4 (omega arith) i;
  err = has_below bits 1024 8 (omega arith) i;
  hup = has_below bits 1024 16 (omega arith) i;
  nval = has_below bits 1024 32 (omega arith) i;
  rdnorm = has_below bits 1024 64 (omega arith) i;
  rdband = has_below bits 1024 128 (omega arith) i;
  wrnorm = has_below bits 1024 256 (omega arith) i;
  wrband = has_below bits 1024 512 (omega arith) i;
}

-- the set of a set's bits is the set
pub poll_set_again : (set : PollSet) → poll_set (poll_bits set) ≡ set
poll_set_again set = λ i. record {
  input = is_one set.input (poll_bits set / 1 % 2) (omega (arith, one_if-le)) i;
  pri = is_one set.pri (poll_bits set / 2 % 2) (omega (arith, one_if-le)) i;
  output = is_one set.output (poll_bits set / 4 % 2) (omega (arith, one_if-le)) i;
  err = is_one set.err (poll_bits set / 8 % 2) (omega (arith, one_if-le)) i;
  hup = is_one set.hup (poll_bits set / 16 % 2) (omega (arith, one_if-le)) i;
  nval = is_one set.nval (poll_bits set / 32 % 2) (omega (arith, one_if-le)) i;
  rdnorm = is_one set.rdnorm (poll_bits set / 64 % 2) (omega (arith, one_if-le)) i;
  rdband = is_one set.rdband (poll_bits set / 128 % 2) (omega (arith, one_if-le)) i;
  wrnorm = is_one set.wrnorm (poll_bits set / 256 % 2) (omega (arith, one_if-le)) i;
  wrband = is_one set.wrband (poll_bits set / 512 % 2) (omega (arith, one_if-le)) i;
}
