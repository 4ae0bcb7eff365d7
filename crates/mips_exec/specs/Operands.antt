-- The operands of an instruction.
-- Source: MIPS32 Architecture for Programmers, Volume II, Release 2, "CPU Instruction Formats".
-- Register numbers, shift counts and places in a word are taken modulo 32 all through the table. The fields of a
-- decoded word have 5 bits, so nothing changes for them, and the table needs no premise on what it is given.
use Rattle.std.specs.Prelude.{ℕ, ℤ, Bool, ◌%◌, if◌then◌else◌}
use Rattle.std.specs.Int.{w32, cast_unsigned}
use Rattle.mips_exec.specs.Arithmetic.{sum}
use Rattle.mips_exec.specs.Processor.{Processor, register}

-- the register that a field of 5 bits names
abbrev pub operand : Processor → ℕ → ℕ
operand p field = register p (field % 32)

-- a signed immediate as a word
abbrev pub word_of : ℤ → ℕ
word_of imm = cast_unsigned w32 imm

-- the address of a load or a store
abbrev pub address : Processor → ℕ → ℤ → ℕ
address p base imm = sum (operand p base) (word_of imm)

-- what a comparison leaves in a register
abbrev pub one_if : Bool → ℕ
one_if holds = if holds then 1 else 0
