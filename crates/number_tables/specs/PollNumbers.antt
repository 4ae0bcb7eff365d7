-- The numbers of the events of poll(2) in both worlds.
use Rattle.std.specs.Prelude.{ℕ, ◌+◌, ◌*◌, true, ◌||◌, Option}
use Rattle.kernel_core.specs.declared.poll_bits.PollBits.{PollBits}
use Rattle.kernel_core.specs.Bits.{one_if, has}
use Rattle.number_tables.specs.Flags.{stands_for}

-- the number of a set of events
-- for an o32 program (Linux arch/mips/include/uapi/asm/poll.h), where WRNORM is OUT's bit:
-- it stands for both, and either gives it
abbrev pub o32_poll : PollBits → ℕ
o32_poll flags =
    1 * one_if flags.input
    + 2 * one_if flags.pri
    + 4 * one_if (flags.output || flags.wrnorm)
    + 8 * one_if flags.err
    + 0x10 * one_if flags.hup
    + 0x20 * one_if flags.nval
    + 0x40 * one_if flags.rdnorm
    + 0x80 * one_if flags.rdband
    + 0x100 * one_if flags.wrband

-- the flags whose bits a number has there, whatever its other bits
abbrev pub o32_poll_read : ℕ → PollBits
o32_poll_read number = record {
  input = has number 1;
  pri = has number 2;
  output = has number 4;
  wrnorm = has number 4;
  err = has number 8;
  hup = has number 0x10;
  nval = has number 0x20;
  rdnorm = has number 0x40;
  rdband = has number 0x80;
  wrband = has number 0x100;
}

-- the flags that a number stands for there
abbrev pub poll_of_o32 : ℕ → Option PollBits
poll_of_o32 number = stands_for o32_poll (λ _. true) o32_poll_read number

-- for the native kernel (Linux include/uapi/asm-generic/poll.h)
abbrev pub native_poll : PollBits → ℕ
native_poll flags =
    1 * one_if flags.input
    + 2 * one_if flags.pri
    + 4 * one_if flags.output
    + 8 * one_if flags.err
    + 0x10 * one_if flags.hup
    + 0x20 * one_if flags.nval
    + 0x40 * one_if flags.rdnorm
    + 0x80 * one_if flags.rdband
    + 0x100 * one_if flags.wrnorm
    + 0x200 * one_if flags.wrband

-- the flags whose bits a number has there, whatever its other bits
abbrev pub native_poll_read : ℕ → PollBits
native_poll_read number = record {
  input = has number 1;
  pri = has number 2;
  output = has number 4;
  err = has number 8;
  hup = has number 0x10;
  nval = has number 0x20;
  rdnorm = has number 0x40;
  rdband = has number 0x80;
  wrnorm = has number 0x100;
  wrband = has number 0x200;
}

-- the flags that a number stands for there
abbrev pub poll_of_native : ℕ → Option PollBits
poll_of_native number = stands_for native_poll (λ _. true) native_poll_read number
