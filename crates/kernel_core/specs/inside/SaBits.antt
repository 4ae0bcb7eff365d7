-- The bits in which `SaFlags` are kept.
use Rattle.std.specs.Prelude.{◌≡◌, ℕ, ◌+◌, ◌*◌, ◌/◌, ◌%◌, ◌<◌}
use Rattle.std.proofs.Common.{arith, sym, ◌∙◌, ap}
use Rattle.kernel_core.specs.Bits.{one_if}
use Rattle.kernel_core.specs.inside.BitLaws.{one_if-has, has_below, one_if-le, is_one}
use Rattle.kernel_core.specs.SaSet.{SaSet, sa_set}

-- the bits of a set
abbrev pub sa_bits : SaSet → ℕ
sa_bits set =
    one_if set.nocldstop
    + 2 * one_if set.siginfo
    + 4 * one_if set.nocldwait
    + 8 * one_if set.onstack
    + 16 * one_if set.restart
    + 32 * one_if set.nodefer
    + 64 * one_if set.resethand

-- are those from which the set was read
pub sa_bits_again : (bits : ℕ) → bits < 128 → sa_bits (sa_set bits) ≡ bits
sa_bits_again bits small = omega (arith, one_if-has)

pub sa_bits_of : (bits : ℕ) (set : SaSet) → bits < 128 → sa_set bits ≡ set → sa_bits set ≡ bits
sa_bits_of bits set small is = ap sa_bits (sym is) ∙ sa_bits_again bits small

-- bits without a name say nothing
pub sa_set_named : (bits : ℕ) → sa_set (bits % 128) ≡ sa_set bits
sa_set_named bits = λ i. record {
  nocldstop = has_below bits 128 1 (omega arith) i;
  siginfo = has_below bits 128 2 (omega arith) i;
  nocldwait = has_below bits 128 4 (omega arith) i;
  onstack = has_below bits 128 8 (omega arith) i;
  restart = has_below bits 128 16 (omega arith) i;
  nodefer = has_below bits 128 32 (omega arith) i;
  resethand = has_below bits 128 64 (omega arith) i;
}

-- the set of a set's bits is the set
pub sa_set_again : (set : SaSet) → sa_set (sa_bits set) ≡ set
sa_set_again set = λ i. record {
  nocldstop = is_one set.nocldstop (sa_bits set / 1 % 2) (omega (arith, one_if-le)) i;
  siginfo = is_one set.siginfo (sa_bits set / 2 % 2) (omega (arith, one_if-le)) i;
  nocldwait = is_one set.nocldwait (sa_bits set / 4 % 2) (omega (arith, one_if-le)) i;
  onstack = is_one set.onstack (sa_bits set / 8 % 2) (omega (arith, one_if-le)) i;
  restart = is_one set.restart (sa_bits set / 16 % 2) (omega (arith, one_if-le)) i;
  nodefer = is_one set.nodefer (sa_bits set / 32 % 2) (omega (arith, one_if-le)) i;
  resethand = is_one set.resethand (sa_bits set / 64 % 2) (omega (arith, one_if-le)) i;
}
