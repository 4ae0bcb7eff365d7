-- The numbers of the flags of sigaction(2) in both worlds.
use Rattle.std.specs.Prelude.{ℕ, ◌+◌, ◌*◌, true, Option}
use Rattle.kernel_core.specs.declared.sa_flags.SaFlags.{SaFlags}
use Rattle.kernel_core.specs.Bits.{one_if, has}
use Rattle.number_tables.specs.Flags.{stands_for}

-- the number of a set of flags
-- for an o32 program (Linux arch/mips/include/uapi/asm/signal.h)
abbrev pub o32_sa : SaFlags → ℕ
o32_sa flags =
    1 * one_if flags.nocldstop
    + 8 * one_if flags.siginfo
    + 0x10000 * one_if flags.nocldwait
    + 0x08000000 * one_if flags.onstack
    + 0x10000000 * one_if flags.restart
    + 0x40000000 * one_if flags.nodefer
    + 0x80000000 * one_if flags.resethand

-- the flags whose bits a number has there, whatever its other bits
abbrev pub o32_sa_read : ℕ → SaFlags
o32_sa_read number = record {
  nocldstop = has number 1;
  siginfo = has number 8;
  nocldwait = has number 0x10000;
  onstack = has number 0x08000000;
  restart = has number 0x10000000;
  nodefer = has number 0x40000000;
  resethand = has number 0x80000000;
}

-- the flags that a number stands for there
abbrev pub sa_of_o32 : ℕ → Option SaFlags
sa_of_o32 number = stands_for o32_sa (λ _. true) o32_sa_read number

-- for the native kernel (Linux include/uapi/asm-generic/signal-defs.h)
abbrev pub native_sa : SaFlags → ℕ
native_sa flags =
    1 * one_if flags.nocldstop
    + 4 * one_if flags.siginfo
    + 2 * one_if flags.nocldwait
    + 0x08000000 * one_if flags.onstack
    + 0x10000000 * one_if flags.restart
    + 0x40000000 * one_if flags.nodefer
    + 0x80000000 * one_if flags.resethand

-- the flags whose bits a number has there, whatever its other bits
abbrev pub native_sa_read : ℕ → SaFlags
native_sa_read number = record {
  nocldstop = has number 1;
  siginfo = has number 4;
  nocldwait = has number 2;
  onstack = has number 0x08000000;
  restart = has number 0x10000000;
  nodefer = has number 0x40000000;
  resethand = has number 0x80000000;
}

-- the flags that a number stands for there
abbrev pub sa_of_native : ℕ → Option SaFlags
sa_of_native number = stands_for native_sa (λ _. true) native_sa_read number
