-- The numbers of the flags of open(2) in both worlds.
use Rattle.std.specs.Prelude.{ℕ, ◌+◌, ◌*◌, ◌%◌, Bool, not, ◌==◌, ◌||◌, Option, if◌then◌else◌}
use Rattle.kernel_core.specs.declared.open_flags.Access.{Access}
use Rattle.kernel_core.specs.declared.open_flags.Access.TheVariants.{Read, Write, ReadWrite}
use Rattle.kernel_core.specs.declared.open_flags.OpenFlags.{OpenFlags}
use Rattle.kernel_core.specs.Bits.{one_if, has}
use Rattle.number_tables.specs.Flags.{stands_for}

-- the access mode, in both worlds (Linux include/uapi/asm-generic/fcntl.h)
abbrev pub access_number : Access → ℕ
access_number Read = 0
access_number Write = 1
access_number ReadWrite = 2

-- the access mode that the two low bits are, which in a number of flags are not both set
abbrev pub access_of : ℕ → Access
access_of number = if number % 4 == 1 then Write else if number % 4 == 2 then ReadWrite else Read

-- open(2) knows SYNC with DSYNC alone
abbrev pub is_synced : OpenFlags → Bool
is_synced flags = flags.dsync || not flags.sync

-- the number of a set of flags
-- for an o32 program (Linux arch/mips/include/uapi/asm/fcntl.h)
abbrev pub o32_open : OpenFlags → ℕ
o32_open flags =
    access_number flags.access
    + 0x8 * one_if flags.append
    + 0x10 * one_if flags.dsync
    + 0x80 * one_if flags.nonblock
    + 0x100 * one_if flags.creat
    + 0x200 * one_if flags.trunc
    + 0x400 * one_if flags.excl
    + 0x800 * one_if flags.noctty
    + 0x2000 * one_if flags.largefile
    + 0x4000 * one_if flags.sync
    + 0x10000 * one_if flags.directory
    + 0x20000 * one_if flags.nofollow
    + 0x80000 * one_if flags.cloexec

-- the flags whose bits a number has there, whatever its other bits
abbrev pub o32_open_read : ℕ → OpenFlags
o32_open_read number = record {
  access = access_of number;
  append = has number 0x8;
  dsync = has number 0x10;
  nonblock = has number 0x80;
  creat = has number 0x100;
  trunc = has number 0x200;
  excl = has number 0x400;
  noctty = has number 0x800;
  largefile = has number 0x2000;
  sync = has number 0x4000;
  directory = has number 0x10000;
  nofollow = has number 0x20000;
  cloexec = has number 0x80000;
}

-- the flags that a number stands for there
abbrev pub open_of_o32 : ℕ → Option OpenFlags
open_of_o32 number = stands_for o32_open is_synced o32_open_read number

-- for the native kernel (Linux include/uapi/asm-generic/fcntl.h)
abbrev pub native_open : OpenFlags → ℕ
native_open flags =
    access_number flags.access
    + 0x400 * one_if flags.append
    + 0x1000 * one_if flags.dsync
    + 0x800 * one_if flags.nonblock
    + 0x40 * one_if flags.creat
    + 0x200 * one_if flags.trunc
    + 0x80 * one_if flags.excl
    + 0x100 * one_if flags.noctty
    + 0x8000 * one_if flags.largefile
    + 0x100000 * one_if flags.sync
    + 0x10000 * one_if flags.directory
    + 0x20000 * one_if flags.nofollow
    + 0x80000 * one_if flags.cloexec

-- the flags whose bits a number has there, whatever its other bits
abbrev pub native_open_read : ℕ → OpenFlags
native_open_read number = record {
  access = access_of number;
  append = has number 0x400;
  dsync = has number 0x1000;
  nonblock = has number 0x800;
  creat = has number 0x40;
  trunc = has number 0x200;
  excl = has number 0x80;
  noctty = has number 0x100;
  largefile = has number 0x8000;
  sync = has number 0x100000;
  directory = has number 0x10000;
  nofollow = has number 0x20000;
  cloexec = has number 0x80000;
}

-- the flags that a number stands for there
abbrev pub open_of_native : ℕ → Option OpenFlags
open_of_native number = stands_for native_open is_synced native_open_read number
