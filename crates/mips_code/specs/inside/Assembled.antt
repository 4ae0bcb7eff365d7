-- The word whose fields hold given numbers, as a sum.
use Rattle.std.specs.Prelude.{ℕ, ◌+◌, ◌*◌, ◌^◌}
use Rattle.std.specs.Int.{cast_unsigned, w16}
use Rattle.mips_code.specs.declared.parts.Parts.{Parts}
use Rattle.mips_code.specs.declared.parts.Parts.TheVariants.{Jump, Signed, Immediate, Register, LongCode, ShortCode}

abbrev pub word_of_parts : Parts → ℕ
word_of_parts (Jump opcode target) = opcode * 2 ^ 26 + target
word_of_parts (Signed opcode rs rt imm) =
    opcode * 2 ^ 26 + rs * 2 ^ 21 + rt * 2 ^ 16 + cast_unsigned w16 imm
word_of_parts (Immediate opcode rs rt imm) = opcode * 2 ^ 26 + rs * 2 ^ 21 + rt * 2 ^ 16 + imm
word_of_parts (Register opcode rs rt rd sa function) =
    opcode * 2 ^ 26 + rs * 2 ^ 21 + rt * 2 ^ 16 + rd * 2 ^ 11 + sa * 2 ^ 6 + function
word_of_parts (LongCode code function) = code * 2 ^ 6 + function
word_of_parts (ShortCode rs rt code function) = rs * 2 ^ 21 + rt * 2 ^ 16 + code * 2 ^ 6 + function
