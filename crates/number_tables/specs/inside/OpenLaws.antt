-- Numbers and names are inverse, in each world.
use Rattle.std.specs.Prelude.{◌≡◌, ℕ, ◌/◌, ◌%◌, ◌≤◌, IsTrue, Some, refl}
use Rattle.std.proofs.Common.{arith}
use Rattle.kernel_core.specs.declared.open_flags.Access.{Access}
use Rattle.kernel_core.specs.declared.open_flags.Access.TheVariants.{Read, Write, ReadWrite}
use Rattle.kernel_core.specs.declared.open_flags.OpenFlags.{OpenFlags}
use Rattle.kernel_core.specs.inside.BitLaws.{one_if-le, is_one}
use Rattle.number_tables.specs.inside.FlagLaws.{stands_for-number, stands_for-value, stands_for-listed}
use Rattle.number_tables.specs.OpenNumbers.{access_number, access_of, is_synced, o32_open, o32_open_read, open_of_o32, native_open, native_open_read, open_of_native}

access_number-le : (access : Access) → access_number access ≤ 2
access_number-le Read = omega arith
access_number-le Write = omega arith
access_number-le ReadWrite = omega arith

access_again : (access : Access) (number : ℕ) → number % 4 ≡ access_number access → access_of number ≡ access
access_again Read number is = rw is refl
access_again Write number is = rw is refl
access_again ReadWrite number is = rw is refl

pub o32_open_number : (number : ℕ) (flags : OpenFlags) → open_of_o32 number ≡ Some flags → o32_open flags ≡ number
o32_open_number number flags at = stands_for-number o32_open is_synced o32_open_read number flags at

o32_open_read_again : (flags : OpenFlags) → o32_open_read (o32_open flags) ≡ flags
o32_open_read_again flags = λ i. record {
  access = (access_again flags.access (o32_open flags) (omega (arith, one_if-le, access_number-le))) i;
  append = (is_one flags.append (o32_open flags / 0x8 % 2) (omega (arith, one_if-le, access_number-le))) i;
  dsync = (is_one flags.dsync (o32_open flags / 0x10 % 2) (omega (arith, one_if-le, access_number-le))) i;
  nonblock = (is_one flags.nonblock (o32_open flags / 0x80 % 2) (omega (arith, one_if-le, access_number-le))) i;
  creat = (is_one flags.creat (o32_open flags / 0x100 % 2) (omega (arith, one_if-le, access_number-le))) i;
  trunc = (is_one flags.trunc (o32_open flags / 0x200 % 2) (omega (arith, one_if-le, access_number-le))) i;
  excl = (is_one flags.excl (o32_open flags / 0x400 % 2) (omega (arith, one_if-le, access_number-le))) i;
  noctty = (is_one flags.noctty (o32_open flags / 0x800 % 2) (omega (arith, one_if-le, access_number-le))) i;
  largefile = (is_one flags.largefile (o32_open flags / 0x2000 % 2) (omega (arith, one_if-le, access_number-le))) i;
  sync = (is_one flags.sync (o32_open flags / 0x4000 % 2) (omega (arith, one_if-le, access_number-le))) i;
  directory = (is_one flags.directory (o32_open flags / 0x10000 % 2) (omega (arith, one_if-le, access_number-le))) i;
  nofollow = (is_one flags.nofollow (o32_open flags / 0x20000 % 2) (omega (arith, one_if-le, access_number-le))) i;
  cloexec = (is_one flags.cloexec (o32_open flags / 0x80000 % 2) (omega (arith, one_if-le, access_number-le))) i;
}

pub o32_open_found : (flags : OpenFlags) → IsTrue (is_synced flags) → open_of_o32 (o32_open flags) ≡ Some flags
o32_open_found flags listed = stands_for-value o32_open is_synced o32_open_read flags (o32_open_read_again flags) listed

pub native_open_number : (number : ℕ) (flags : OpenFlags) → open_of_native number ≡ Some flags → native_open flags ≡ number
native_open_number number flags at = stands_for-number native_open is_synced native_open_read number flags at

native_open_read_again : (flags : OpenFlags) → native_open_read (native_open flags) ≡ flags
native_open_read_again flags = λ i. record {
  access = (access_again flags.access (native_open flags) (omega (arith, one_if-le, access_number-le))) i;
  append = (is_one flags.append (native_open flags / 0x400 % 2) (omega (arith, one_if-le, access_number-le))) i;
  dsync = (is_one flags.dsync (native_open flags / 0x1000 % 2) (omega (arith, one_if-le, access_number-le))) i;
  nonblock = (is_one flags.nonblock (native_open flags / 0x800 % 2) (omega (arith, one_if-le, access_number-le))) i;
  creat = (is_one flags.creat (native_open flags / 0x40 % 2) (omega (arith, one_if-le, access_number-le))) i;
  trunc = (is_one flags.trunc (native_open flags / 0x200 % 2) (omega (arith, one_if-le, access_number-le))) i;
  excl = (is_one flags.excl (native_open flags / 0x80 % 2) (omega (arith, one_if-le, access_number-le))) i;
  noctty = (is_one flags.noctty (native_open flags / 0x100 % 2) (omega (arith, one_if-le, access_number-le))) i;
  largefile = (is_one flags.largefile (native_open flags / 0x8000 % 2) (omega (arith, one_if-le, access_number-le))) i;
  sync = (is_one flags.sync (native_open flags / 0x100000 % 2) (omega (arith, one_if-le, access_number-le))) i;
  directory = (is_one flags.directory (native_open flags / 0x10000 % 2) (omega (arith, one_if-le, access_number-le))) i;
  nofollow = (is_one flags.nofollow (native_open flags / 0x20000 % 2) (omega (arith, one_if-le, access_number-le))) i;
  cloexec = (is_one flags.cloexec (native_open flags / 0x80000 % 2) (omega (arith, one_if-le, access_number-le))) i;
}

pub native_open_found : (flags : OpenFlags) → IsTrue (is_synced flags) → open_of_native (native_open flags) ≡ Some flags
native_open_found flags listed = stands_for-value native_open is_synced native_open_read flags (native_open_read_again flags) listed

pub o32_open_listed : (number : ℕ) (flags : OpenFlags) → open_of_o32 number ≡ Some flags → IsTrue (is_synced flags)
o32_open_listed number flags at = stands_for-listed o32_open is_synced o32_open_read number flags at

pub native_open_listed : (number : ℕ) (flags : OpenFlags) → open_of_native number ≡ Some flags → IsTrue (is_synced flags)
native_open_listed number flags at = stands_for-listed native_open is_synced native_open_read number flags at
