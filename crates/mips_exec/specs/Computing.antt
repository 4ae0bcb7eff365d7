-- Additions that may overflow, and the hardware registers (MIPS32 Architecture for Programmers, Volume II).
use Rattle.std.specs.Prelude.{ℕ, Bool, ◌==◌, if◌then◌else◌}
use Rattle.mips_exec.specs.declared.codes.TheConstants.{INTEGER_OVERFLOW}
use Rattle.mips_exec.specs.declared.effect.Effect.{Effect}
use Rattle.mips_exec.specs.declared.effect.Effect.TheVariants.{Register, ArithmeticError, Reserved}
use Rattle.mips_exec.specs.Processor.{Processor}

-- ADD, ADDI and SUB: an integer overflow where the signed result has no word
abbrev pub unless_overflow : Bool → ℕ → ℕ → Effect
unless_overflow fits n value = if fits then Register n value else ArithmeticError INTEGER_OVERFLOW

-- RDHWR: register 29 is the thread pointer, register 1 the step of SYNCI, which is 0 where it is not needed
abbrev pub hardware_register : Processor → ℕ → ℕ → Effect
hardware_register p n to =
    if n == 29 then Register to p.thread_pointer else if n == 1 then Register to 0 else Reserved
