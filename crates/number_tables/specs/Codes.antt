-- The codes of a siginfo in both worlds.
use Rattle.std.specs.Prelude.{ℤ, negsuc, if◌then◌else◌}
use Rattle.std.specs.Ordering.{int_eq}

-- the native code of a code of an o32 program: SI_TIMER is -3 there and -2 natively, SI_MESGQ -4
-- and -3, SI_ASYNCIO -2 and -4, and any other code is the same
-- (Linux arch/mips/include/uapi/asm/siginfo.h and include/uapi/asm-generic/siginfo.h)
abbrev pub native_code : ℤ → ℤ
native_code code =
    if int_eq code (negsuc 2) then negsuc 1
    else if int_eq code (negsuc 3) then negsuc 2
    else if int_eq code (negsuc 1) then negsuc 3
    else code

-- the code for an o32 program of a native code
abbrev pub o32_code : ℤ → ℤ
o32_code code =
    if int_eq code (negsuc 1) then negsuc 2
    else if int_eq code (negsuc 2) then negsuc 3
    else if int_eq code (negsuc 3) then negsuc 1
    else code
