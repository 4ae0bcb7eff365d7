-- A word with given fields is the one that an encoder makes of them.
use Rattle.std.proofs.Common.{◌≡◌, refl}
use Rattle.mips_code.specs.declared.parts.Parts.{Parts}
use Rattle.mips_code.specs.declared.parts.Parts.TheVariants.{Jump, Signed, Immediate, Register, LongCode, ShortCode}
use Rattle.mips_code.specs.inside.Assembled.{word_of_parts}
use Rattle.soak_program.specs.Instructions.{word_with}

pub encoded : (parts : Parts) → word_with parts ≡ word_of_parts parts
encoded (Jump opcode target) = refl
encoded (Signed opcode rs rt imm) = refl
encoded (Immediate opcode rs rt imm) = refl
encoded (Register opcode rs rt rd sa function) = refl
encoded (LongCode code function) = refl
encoded (ShortCode rs rt code function) = refl
