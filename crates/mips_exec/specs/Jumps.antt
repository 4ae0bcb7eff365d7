-- Where jumps and branches go (MIPS32 Architecture for Programmers, Volume II). The pc is the jump's own.
use Rattle.std.specs.Prelude.{ℕ, ℤ, Bool, nat_lt, nat_le, Option, Some, None, ◌+◌, ◌*◌, ◌/◌, ◌%◌, ◌^◌, ◌&&◌, if◌then◌else◌}
use Rattle.mips_exec.specs.declared.effect.Effect.{Effect}
use Rattle.mips_exec.specs.declared.effect.Effect.TheVariants.{Branch}
use Rattle.mips_exec.specs.Arithmetic.{sum}
use Rattle.mips_exec.specs.Operands.{word_of}
use Rattle.mips_exec.specs.Processor.{Processor}

-- where a branch goes: a count of words from its slot
abbrev pub branch_target : Processor → ℤ → ℕ
branch_target p imm = (p.pc + 4 + word_of imm * 4) % 2 ^ 32

-- the address past the slot
abbrev pub past_slot : Processor → ℕ
past_slot p = sum p.pc 8

-- where a jump goes: within the 256 MiB of its slot
abbrev pub jump_target : Processor → ℕ → ℕ
jump_target p index = sum p.pc 4 / 2 ^ 28 * 2 ^ 28 + index % 2 ^ 26 * 4

abbrev pub branch : Option ℕ → Processor → ℤ → Bool → Effect
branch link p imm taken = Branch link (Some (if taken then branch_target p imm else past_slot p))

abbrev pub branch_likely : Option ℕ → Processor → ℤ → Bool → Effect
branch_likely link p imm taken = Branch link (if taken then Some (branch_target p imm) else None)

-- the sign of a word as a signed number
abbrev pub is_negative : ℕ → Bool
is_negative a = nat_le (2 ^ 31) a

abbrev pub is_positive : ℕ → Bool
is_positive a = nat_lt 0 a && nat_lt a (2 ^ 31)
