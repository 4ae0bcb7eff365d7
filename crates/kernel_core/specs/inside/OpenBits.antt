-- The bits in which `OpenFlags` are kept.
use Rattle.std.specs.Prelude.{◌≡◌, ℕ, ◌+◌, ◌*◌, ◌/◌, ◌%◌, ◌<◌}
use Rattle.std.proofs.Common.{arith}
use Rattle.kernel_core.specs.Bits.{one_if}
use Rattle.kernel_core.specs.inside.BitLaws.{one_if-has, has_below, one_if-le, is_one}
use Rattle.kernel_core.specs.OpenSet.{OpenSet, open_set}
use Rattle.kernel_core.specs.declared.open_flags.Access.{Access}

-- the bits of a set
abbrev pub open_bits : OpenSet → ℕ
open_bits set =
    one_if set.append
    + 2 * one_if set.dsync
    + 4 * one_if set.nonblock
    + 8 * one_if set.creat
    + 16 * one_if set.trunc
    + 32 * one_if set.excl
    + 64 * one_if set.noctty
    + 128 * one_if set.largefile
    + 256 * one_if set.sync
    + 512 * one_if set.directory
    + 1024 * one_if set.nofollow
    + 2048 * one_if set.cloexec

-- are those from which the set was read
pub open_bits_again : (access : Access) (bits : ℕ) → bits < 4096 → open_bits (open_set access bits) ≡ bits
open_bits_again access bits small = omega (arith, one_if-has)

-- bits without a name say nothing
pub open_set_named : (access : Access) (bits : ℕ) → open_set access (bits % 4096) ≡ open_set access bits
open_set_named access bits = λ i. record {
  access = access;
  append = has_below bits 4096 1 (omega arith) i;
  dsync = has_below bits 4096 2 (omega arith) i;
  nonblock = has_below bits 4096 4 (omega arith) i;
  creat = has_below bits 4096 8 (omega arith) i;
  trunc = has_below bits 4096 16 (omega arith) i;
  excl = has_below bits 4096 32 (omega arith) i;
  noctty = has_below bits 4096 64 (omega arith) i;
  largefile = has_below bits 4096 128 (omega arith) i;
  sync = has_below bits 4096 256 (omega arith) i;
  directory = has_below bits 4096 512 (omega arith) i;
  nofollow = has_below bits 4096 1024 (omega arith) i;
  cloexec = has_below bits 4096 2048 (omega arith) i;
}

-- the set of a set's bits is the set
pub open_set_again : (set : OpenSet) → open_set set.access (open_bits set) ≡ set
open_set_again set = λ i. record {
  access = set.access;
  append = is_one set.append (open_bits set / 1 % 2) (omega (arith, one_if-le)) i;
  dsync = is_one set.dsync (open_bits set / 2 % 2) (omega (arith, one_if-le)) i;
  nonblock = is_one set.nonblock (open_bits set / 4 % 2) (omega (arith, one_if-le)) i;
  creat = is_one set.creat (open_bits set / 8 % 2) (omega (arith, one_if-le)) i;
  trunc = is_one set.trunc (open_bits set / 16 % 2) (omega (arith, one_if-le)) i;
  excl = is_one set.excl (open_bits set / 32 % 2) (omega (arith, one_if-le)) i;
  noctty = is_one set.noctty (open_bits set / 64 % 2) (omega (arith, one_if-le)) i;
  largefile = is_one set.largefile (open_bits set / 128 % 2) (omega (arith, one_if-le)) i;
  sync = is_one set.sync (open_bits set / 256 % 2) (omega (arith, one_if-le)) i;
  directory = is_one set.directory (open_bits set / 512 % 2) (omega (arith, one_if-le)) i;
  nofollow = is_one set.nofollow (open_bits set / 1024 % 2) (omega (arith, one_if-le)) i;
  cloexec = is_one set.cloexec (open_bits set / 2048 % 2) (omega (arith, one_if-le)) i;
}
