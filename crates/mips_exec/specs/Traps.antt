-- What a trap's number means.
-- The exchange of the halves of BREAK's code, what the codes mean and the codes of the signals are this
-- project's own (6 and 7 are named BRK_OVERFLOW and BRK_DIVZERO in Linux's asm/break.h).
use Rattle.std.specs.Prelude.{ℕ, Bool, nat_lt, ◌+◌, ◌*◌, ◌/◌, ◌%◌, ◌==◌, if◌then◌else◌}
use Rattle.mips_exec.specs.declared.codes.TheConstants.{DIVISION_BY_ZERO, INTEGER_OVERFLOW, TRAP}
use Rattle.mips_exec.specs.declared.effect.Effect.{Effect}
use Rattle.mips_exec.specs.declared.effect.Effect.TheVariants.{Proceed, ArithmeticError, Breakpoint}

-- 6 is an overflow and 7 a division by zero; any other number is a trap with this code
abbrev pub trap : ℕ → ℕ → Effect
trap number code =
    if number == 6 then ArithmeticError INTEGER_OVERFLOW
    else if number == 7 then ArithmeticError DIVISION_BY_ZERO
    else Breakpoint code

-- a trap instruction that holds; an immediate trap counts as number 0
abbrev pub trap_if : Bool → ℕ → Effect
trap_if holds number = if holds then trap number TRAP else Proceed

-- a code of BREAK that is 1024 or above has its two halves of 10 bits exchanged
abbrev pub break_number : ℕ → ℕ
break_number code = if nat_lt code 1024 then code else code % 1024 * 1024 + code / 1024
