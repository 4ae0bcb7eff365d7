-- HI and LO as one number (MIPS32 Architecture for Programmers, Volume II).
use Rattle.std.specs.Prelude.{ℕ, ◌+◌, ◌*◌, ◌/◌, ◌%◌, ◌^◌}
use Rattle.mips_exec.specs.declared.effect.Effect.{Effect}
use Rattle.mips_exec.specs.declared.effect.Effect.TheVariants.{HighLow}
use Rattle.mips_exec.specs.Arithmetic.{sign_extended_word}
use Rattle.mips_exec.specs.Processor.{Processor}

-- HI and LO as one number of 64 bits
abbrev pub accumulator : Processor → ℕ
accumulator p = p.hi * 2 ^ 32 + p.lo

abbrev pub to_accumulator : ℕ → Effect
to_accumulator n = HighLow (n / 2 ^ 32) (n % 2 ^ 32)

-- the product of two words, read as signed numbers, modulo 2^64
abbrev pub signed_product : ℕ → ℕ → ℕ
signed_product a b = sign_extended_word a * sign_extended_word b % 2 ^ 64
