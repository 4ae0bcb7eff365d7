-- What each instruction does, as far as its fields and the registers tell: one line for each
-- (MIPS32 Architecture for Programmers, Volume II, with the big-endian byte order). What memory answers and what a
-- delay slot changes comes after it.
use Rattle.std.specs.Prelude.{Some, None, true, false, not, nat_lt, bit_and, bit_or, bit_xor, ◌+◌, ◌-◌, ◌*◌, ◌/◌, ◌%◌, ◌^◌, ◌+ℤ◌, ◌-ℤ◌, ◌==◌, if◌then◌else◌}
use Rattle.std.specs.Int.{w32, leading_zeros}
use Rattle.mips_code.specs.declared.insn.Insn.{Insn}
use Rattle.mips_code.specs.declared.insn.Insn.TheVariants.{J, Jal, Beq, Bne, Blez, Bgtz, Addi, Addiu, Slti, Sltiu, Andi, Ori, Xori, Lui, Beql, Bnel, Blezl, Bgtzl, Lb, Lh, Lwl, Lw, Lbu, Lhu, Lwr, Sb, Sh, Swl, Sw, Swr, Ll, Pref, Sc, Sll, Srl, Rotr, Sra, Sllv, Srlv, Rotrv, Srav, Jr, Jalr, Movz, Movn, Syscall, Break, Sync, Mfhi, Mthi, Mflo, Mtlo, Mult, Multu, Div, Divu, Add, Addu, Sub, Subu, And, Or, Xor, Nor, Slt, Sltu, Tge, Tgeu, Tlt, Tltu, Teq, Tne, Bltz, Bgez, Bltzl, Bgezl, Tgei, Tgeiu, Tlti, Tltiu, Teqi, Tnei, Bltzal, Bgezal, Bltzall, Bgezall, Synci, Madd, Maddu, Mul, Msub, Msubu, Clz, Clo, Ext, Ins, Wsbh, Seb, Seh, Rdhwr}
use Rattle.mips_exec.specs.declared.codes.TheConstants.{BREAKPOINT}
use Rattle.mips_exec.specs.declared.jumps.TheConstants.{RETURN_ADDRESS}
use Rattle.mips_exec.specs.declared.effect.Span.TheVariants.{Byte, Half, Word, Left, Right}
use Rattle.mips_exec.specs.declared.effect.Effect.{Effect}
use Rattle.mips_exec.specs.declared.effect.Effect.TheVariants.{Proceed, Register, HighLow, Load, LoadLinked, Store, StoreConditional, Branch, SystemCall}
use Rattle.mips_exec.specs.Accumulator.{accumulator, to_accumulator, signed_product}
use Rattle.mips_exec.specs.Arithmetic.{signed, fits_word, sum, difference, signed_less, complement, sign_extended_byte, sign_extended_half, shifted_arithmetically, rotated, signed_quotient, signed_remainder, halves_swapped, extracted, inserted}
use Rattle.mips_exec.specs.Computing.{unless_overflow, hardware_register}
use Rattle.mips_exec.specs.Jumps.{jump_target, branch, branch_likely, is_negative, is_positive}
use Rattle.mips_exec.specs.Operands.{operand, word_of, address, one_if}
use Rattle.mips_exec.specs.Processor.{Processor}
use Rattle.mips_exec.specs.Traps.{trap, trap_if, break_number}

abbrev pub effect_of : Insn → Processor → Effect
-- an operation on a register and an immediate
effect_of (Addi rs rt imm) p =
    unless_overflow (fits_word (signed (operand p rs) +ℤ imm)) rt (sum (operand p rs) (word_of imm))
effect_of (Addiu rs rt imm) p = Register rt (sum (operand p rs) (word_of imm))
effect_of (Slti rs rt imm) p = Register rt (one_if (signed_less (operand p rs) (word_of imm)))
effect_of (Sltiu rs rt imm) p = Register rt (one_if (nat_lt (operand p rs) (word_of imm)))
effect_of (Andi rs rt imm) p = Register rt (bit_and (operand p rs) imm)
effect_of (Ori rs rt imm) p = Register rt (bit_or (operand p rs) imm)
effect_of (Xori rs rt imm) p = Register rt (bit_xor (operand p rs) imm)
effect_of (Lui rt imm) p = Register rt (imm * 2 ^ 16)
-- an operation on two registers
effect_of (Add rs rt rd) p =
    unless_overflow (fits_word (signed (operand p rs) +ℤ signed (operand p rt))) rd (sum (operand p rs) (operand p rt))
effect_of (Addu rs rt rd) p = Register rd (sum (operand p rs) (operand p rt))
effect_of (Sub rs rt rd) p =
    unless_overflow (fits_word (signed (operand p rs) -ℤ signed (operand p rt))) rd (difference (operand p rs) (operand p rt))
effect_of (Subu rs rt rd) p = Register rd (difference (operand p rs) (operand p rt))
effect_of (And rs rt rd) p = Register rd (bit_and (operand p rs) (operand p rt))
effect_of (Or rs rt rd) p = Register rd (bit_or (operand p rs) (operand p rt))
effect_of (Xor rs rt rd) p = Register rd (bit_xor (operand p rs) (operand p rt))
effect_of (Nor rs rt rd) p = Register rd (complement (bit_or (operand p rs) (operand p rt)))
effect_of (Slt rs rt rd) p = Register rd (one_if (signed_less (operand p rs) (operand p rt)))
effect_of (Sltu rs rt rd) p = Register rd (one_if (nat_lt (operand p rs) (operand p rt)))
effect_of (Mul rs rt rd) p = Register rd (operand p rs * operand p rt % 2 ^ 32)
effect_of (Movz rs rt rd) p = if operand p rt == 0 then Register rd (operand p rs) else Proceed
effect_of (Movn rs rt rd) p = if operand p rt == 0 then Proceed else Register rd (operand p rs)
-- shifts and rotations, by a number or by the lowest 5 bits of a register
effect_of (Sll rt rd sa) p = Register rd (operand p rt * 2 ^ (sa % 32) % 2 ^ 32)
effect_of (Srl rt rd sa) p = Register rd (operand p rt / 2 ^ (sa % 32))
effect_of (Rotr rt rd sa) p = Register rd (rotated (operand p rt) (sa % 32))
effect_of (Sra rt rd sa) p = Register rd (shifted_arithmetically (operand p rt) (sa % 32))
effect_of (Sllv rs rt rd) p = Register rd (operand p rt * 2 ^ (operand p rs % 32) % 2 ^ 32)
effect_of (Srlv rs rt rd) p = Register rd (operand p rt / 2 ^ (operand p rs % 32))
effect_of (Rotrv rs rt rd) p = Register rd (rotated (operand p rt) (operand p rs % 32))
effect_of (Srav rs rt rd) p = Register rd (shifted_arithmetically (operand p rt) (operand p rs % 32))
-- counts of leading bits, bit fields, bytes and halves, and the hardware registers
effect_of (Clz rs rt rd) p = Register rd (leading_zeros w32 (operand p rs))
effect_of (Clo rs rt rd) p = Register rd (leading_zeros w32 (complement (operand p rs)))
effect_of (Ext rs rt msbd lsb) p = Register rt (extracted (operand p rs) (lsb % 32) (msbd % 32 + 1))
effect_of (Ins rs rt msb lsb) p = Register rt (inserted (operand p rs) (lsb % 32) (msb % 32 - lsb % 32 + 1) (operand p rt))
effect_of (Wsbh rt rd) p = Register rd (halves_swapped (operand p rt))
effect_of (Seb rt rd) p = Register rd (sign_extended_byte (operand p rt))
effect_of (Seh rt rd) p = Register rd (sign_extended_half (operand p rt))
effect_of (Rdhwr rt rd) p = hardware_register p rd rt
-- the registers HI and LO: moves, products and quotients; a division by zero leaves them
effect_of (Mfhi rd) p = Register rd p.hi
effect_of (Mthi rs) p = HighLow (operand p rs) p.lo
effect_of (Mflo rd) p = Register rd p.lo
effect_of (Mtlo rs) p = HighLow p.hi (operand p rs)
effect_of (Mult rs rt) p = to_accumulator (signed_product (operand p rs) (operand p rt))
effect_of (Multu rs rt) p = to_accumulator (operand p rs * operand p rt)
effect_of (Div rs rt) p =
    if operand p rt == 0 then Proceed
    else HighLow (signed_remainder (operand p rs) (operand p rt)) (signed_quotient (operand p rs) (operand p rt))
effect_of (Divu rs rt) p =
    if operand p rt == 0 then Proceed else HighLow (operand p rs % operand p rt) (operand p rs / operand p rt)
effect_of (Madd rs rt) p = to_accumulator ((accumulator p + signed_product (operand p rs) (operand p rt)) % 2 ^ 64)
effect_of (Maddu rs rt) p = to_accumulator ((accumulator p + operand p rs * operand p rt) % 2 ^ 64)
effect_of (Msub rs rt) p =
    to_accumulator ((accumulator p + (2 ^ 64 - signed_product (operand p rs) (operand p rt))) % 2 ^ 64)
effect_of (Msubu rs rt) p = to_accumulator ((accumulator p + (2 ^ 64 - operand p rs * operand p rt)) % 2 ^ 64)
-- loads and stores, at the address of a register plus an immediate; PREF and SYNCI are hints
effect_of (Lb rs rt imm) p = Load Byte true (address p rs imm) rt
effect_of (Lh rs rt imm) p = Load Half true (address p rs imm) rt
effect_of (Lwl rs rt imm) p = Load Left false (address p rs imm) rt
effect_of (Lw rs rt imm) p = Load Word false (address p rs imm) rt
effect_of (Lbu rs rt imm) p = Load Byte false (address p rs imm) rt
effect_of (Lhu rs rt imm) p = Load Half false (address p rs imm) rt
effect_of (Lwr rs rt imm) p = Load Right false (address p rs imm) rt
effect_of (Sb rs rt imm) p = Store Byte (address p rs imm) (operand p rt)
effect_of (Sh rs rt imm) p = Store Half (address p rs imm) (operand p rt)
effect_of (Swl rs rt imm) p = Store Left (address p rs imm) (operand p rt)
effect_of (Sw rs rt imm) p = Store Word (address p rs imm) (operand p rt)
effect_of (Swr rs rt imm) p = Store Right (address p rs imm) (operand p rt)
effect_of (Ll rs rt imm) p = LoadLinked (address p rs imm) rt
effect_of (Sc rs rt imm) p = StoreConditional (address p rs imm) rt
effect_of (Pref rs hint imm) p = Proceed
effect_of (Synci rs imm) p = Proceed
-- traps, BREAK, SYSCALL and SYNC; the unsigned traps compare after sign extension
effect_of (Tge rs rt code) p = trap_if (not (signed_less (operand p rs) (operand p rt))) code
effect_of (Tgeu rs rt code) p = trap_if (not (nat_lt (operand p rs) (operand p rt))) code
effect_of (Tlt rs rt code) p = trap_if (signed_less (operand p rs) (operand p rt)) code
effect_of (Tltu rs rt code) p = trap_if (nat_lt (operand p rs) (operand p rt)) code
effect_of (Teq rs rt code) p = trap_if (operand p rs == operand p rt) code
effect_of (Tne rs rt code) p = trap_if (not (operand p rs == operand p rt)) code
effect_of (Tgei rs imm) p = trap_if (not (signed_less (operand p rs) (word_of imm))) 0
effect_of (Tgeiu rs imm) p = trap_if (not (nat_lt (operand p rs) (word_of imm))) 0
effect_of (Tlti rs imm) p = trap_if (signed_less (operand p rs) (word_of imm)) 0
effect_of (Tltiu rs imm) p = trap_if (nat_lt (operand p rs) (word_of imm)) 0
effect_of (Teqi rs imm) p = trap_if (operand p rs == word_of imm) 0
effect_of (Tnei rs imm) p = trap_if (not (operand p rs == word_of imm)) 0
effect_of (Break code) p = trap (break_number code) BREAKPOINT
effect_of (Syscall code) p = SystemCall
effect_of (Sync kind) p = Proceed
-- jumps
effect_of (J target) p = Branch None (Some (jump_target p target))
effect_of (Jal target) p = Branch RETURN_ADDRESS (Some (jump_target p target))
effect_of (Jr rs hint) p = Branch None (Some (operand p rs))
effect_of (Jalr rs rd hint) p = Branch (Some rd) (Some (operand p rs))
-- branches, which have a slot whether they are taken or not
effect_of (Beq rs rt imm) p = branch None p imm (operand p rs == operand p rt)
effect_of (Bne rs rt imm) p = branch None p imm (not (operand p rs == operand p rt))
effect_of (Blez rs imm) p = branch None p imm (not (is_positive (operand p rs)))
effect_of (Bgtz rs imm) p = branch None p imm (is_positive (operand p rs))
effect_of (Bltz rs imm) p = branch None p imm (is_negative (operand p rs))
effect_of (Bgez rs imm) p = branch None p imm (not (is_negative (operand p rs)))
effect_of (Bltzal rs imm) p = branch RETURN_ADDRESS p imm (is_negative (operand p rs))
effect_of (Bgezal rs imm) p = branch RETURN_ADDRESS p imm (not (is_negative (operand p rs)))
-- likely branches, which leave their slot out where they are not taken
effect_of (Beql rs rt imm) p = branch_likely None p imm (operand p rs == operand p rt)
effect_of (Bnel rs rt imm) p = branch_likely None p imm (not (operand p rs == operand p rt))
effect_of (Blezl rs imm) p = branch_likely None p imm (not (is_positive (operand p rs)))
effect_of (Bgtzl rs imm) p = branch_likely None p imm (is_positive (operand p rs))
effect_of (Bltzl rs imm) p = branch_likely None p imm (is_negative (operand p rs))
effect_of (Bgezl rs imm) p = branch_likely None p imm (not (is_negative (operand p rs)))
effect_of (Bltzall rs imm) p = branch_likely RETURN_ADDRESS p imm (is_negative (operand p rs))
effect_of (Bgezall rs imm) p = branch_likely RETURN_ADDRESS p imm (not (is_negative (operand p rs)))
