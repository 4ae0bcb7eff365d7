-- Numbers of sets of flags are small.
use Rattle.std.proofs.Common.{◌<◌, ◌≤◌, ◌^◌, Bool, true, false, arith}
use Rattle.kernel_core.specs.Bits.{one_if}
use Rattle.kernel_core.specs.declared.open_flags.Access.{Access}
use Rattle.kernel_core.specs.declared.open_flags.Access.TheVariants.{Read, Write, ReadWrite}
use Rattle.kernel_core.specs.declared.open_flags.OpenFlags.{OpenFlags}
use Rattle.number_tables.specs.OpenNumbers.{access_number, native_open}

one : (set : Bool) → one_if set ≤ 1
one true = omega arith
one false = omega arith

access_is_small : (access : Access) → access_number access ≤ 2
access_is_small Read = omega arith
access_is_small Write = omega arith
access_is_small ReadWrite = omega arith

pub flags_are_small : (flags : OpenFlags) → native_open flags < 2 ^ 32
flags_are_small flags =
    omega (arith, access_is_small flags.access, one flags.append, one flags.dsync, one flags.nonblock, one flags.creat, one flags.trunc, one flags.excl, one flags.noctty, one flags.largefile, one flags.sync, one flags.directory, one flags.nofollow, one flags.cloexec)
