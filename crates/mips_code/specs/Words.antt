-- What stands in the fields of an instruction's word, and which fields fit their bits: MIPS32 Architecture for
-- Programmers, Volume II.
use Rattle.std.specs.Prelude.{◌+◌, ◌^◌, ◌==◌, ◌&&◌, nat_le, nat_lt, Bool, true, ℤ, pos, negsuc}
use Rattle.mips_code.specs.declared.insn.Insn.{Insn}
use Rattle.mips_code.specs.declared.insn.Insn.TheVariants.{J, Jal, Beq, Bne, Blez, Bgtz, Addi, Addiu, Slti, Sltiu, Andi, Ori, Xori, Lui, Beql, Bnel, Blezl, Bgtzl, Lb, Lh, Lwl, Lw, Lbu, Lhu, Lwr, Sb, Sh, Swl, Sw, Swr, Ll, Pref, Sc, Sll, Srl, Rotr, Sra, Sllv, Srlv, Rotrv, Srav, Jr, Jalr, Movz, Movn, Syscall, Break, Sync, Mfhi, Mthi, Mflo, Mtlo, Mult, Multu, Div, Divu, Add, Addu, Sub, Subu, And, Or, Xor, Nor, Slt, Sltu, Tge, Tgeu, Tlt, Tltu, Teq, Tne, Bltz, Bgez, Bltzl, Bgezl, Tgei, Tgeiu, Tlti, Tltiu, Teqi, Tnei, Bltzal, Bgezal, Bltzall, Bgezall, Synci, Madd, Maddu, Mul, Msub, Msubu, Clz, Clo, Ext, Ins, Wsbh, Seb, Seh, Rdhwr}
use Rattle.mips_code.specs.declared.parts.Parts.{Parts}
use Rattle.mips_code.specs.declared.parts.Parts.TheVariants.{Jump, Signed, Immediate, Register, LongCode, ShortCode}

-- what stands in the fields of its word
abbrev pub parts_of : Insn → Parts
parts_of (J target) = Jump 2 target
parts_of (Jal target) = Jump 3 target
parts_of (Beq rs rt imm) = Signed 4 rs rt imm
parts_of (Bne rs rt imm) = Signed 5 rs rt imm
parts_of (Blez rs imm) = Signed 6 rs 0 imm
parts_of (Bgtz rs imm) = Signed 7 rs 0 imm
parts_of (Addi rs rt imm) = Signed 8 rs rt imm
parts_of (Addiu rs rt imm) = Signed 9 rs rt imm
parts_of (Slti rs rt imm) = Signed 10 rs rt imm
parts_of (Sltiu rs rt imm) = Signed 11 rs rt imm
parts_of (Andi rs rt imm) = Immediate 12 rs rt imm
parts_of (Ori rs rt imm) = Immediate 13 rs rt imm
parts_of (Xori rs rt imm) = Immediate 14 rs rt imm
parts_of (Lui rt imm) = Immediate 15 0 rt imm
parts_of (Beql rs rt imm) = Signed 20 rs rt imm
parts_of (Bnel rs rt imm) = Signed 21 rs rt imm
parts_of (Blezl rs imm) = Signed 22 rs 0 imm
parts_of (Bgtzl rs imm) = Signed 23 rs 0 imm
parts_of (Lb rs rt imm) = Signed 32 rs rt imm
parts_of (Lh rs rt imm) = Signed 33 rs rt imm
parts_of (Lwl rs rt imm) = Signed 34 rs rt imm
parts_of (Lw rs rt imm) = Signed 35 rs rt imm
parts_of (Lbu rs rt imm) = Signed 36 rs rt imm
parts_of (Lhu rs rt imm) = Signed 37 rs rt imm
parts_of (Lwr rs rt imm) = Signed 38 rs rt imm
parts_of (Sb rs rt imm) = Signed 40 rs rt imm
parts_of (Sh rs rt imm) = Signed 41 rs rt imm
parts_of (Swl rs rt imm) = Signed 42 rs rt imm
parts_of (Sw rs rt imm) = Signed 43 rs rt imm
parts_of (Swr rs rt imm) = Signed 46 rs rt imm
parts_of (Ll rs rt imm) = Signed 48 rs rt imm
parts_of (Pref rs hint imm) = Signed 51 rs hint imm
parts_of (Sc rs rt imm) = Signed 56 rs rt imm
parts_of (Sll rt rd sa) = Register 0 0 rt rd sa 0
parts_of (Srl rt rd sa) = Register 0 0 rt rd sa 2
parts_of (Rotr rt rd sa) = Register 0 1 rt rd sa 2
parts_of (Sra rt rd sa) = Register 0 0 rt rd sa 3
parts_of (Sllv rs rt rd) = Register 0 rs rt rd 0 4
parts_of (Srlv rs rt rd) = Register 0 rs rt rd 0 6
parts_of (Rotrv rs rt rd) = Register 0 rs rt rd 1 6
parts_of (Srav rs rt rd) = Register 0 rs rt rd 0 7
parts_of (Jr rs hint) = Register 0 rs 0 0 hint 8
parts_of (Jalr rs rd hint) = Register 0 rs 0 rd hint 9
parts_of (Movz rs rt rd) = Register 0 rs rt rd 0 10
parts_of (Movn rs rt rd) = Register 0 rs rt rd 0 11
parts_of (Syscall code) = LongCode code 12
parts_of (Break code) = LongCode code 13
parts_of (Sync kind) = Register 0 0 0 0 kind 15
parts_of (Mfhi rd) = Register 0 0 0 rd 0 16
parts_of (Mthi rs) = Register 0 rs 0 0 0 17
parts_of (Mflo rd) = Register 0 0 0 rd 0 18
parts_of (Mtlo rs) = Register 0 rs 0 0 0 19
parts_of (Mult rs rt) = Register 0 rs rt 0 0 24
parts_of (Multu rs rt) = Register 0 rs rt 0 0 25
parts_of (Div rs rt) = Register 0 rs rt 0 0 26
parts_of (Divu rs rt) = Register 0 rs rt 0 0 27
parts_of (Add rs rt rd) = Register 0 rs rt rd 0 32
parts_of (Addu rs rt rd) = Register 0 rs rt rd 0 33
parts_of (Sub rs rt rd) = Register 0 rs rt rd 0 34
parts_of (Subu rs rt rd) = Register 0 rs rt rd 0 35
parts_of (And rs rt rd) = Register 0 rs rt rd 0 36
parts_of (Or rs rt rd) = Register 0 rs rt rd 0 37
parts_of (Xor rs rt rd) = Register 0 rs rt rd 0 38
parts_of (Nor rs rt rd) = Register 0 rs rt rd 0 39
parts_of (Slt rs rt rd) = Register 0 rs rt rd 0 42
parts_of (Sltu rs rt rd) = Register 0 rs rt rd 0 43
parts_of (Tge rs rt code) = ShortCode rs rt code 48
parts_of (Tgeu rs rt code) = ShortCode rs rt code 49
parts_of (Tlt rs rt code) = ShortCode rs rt code 50
parts_of (Tltu rs rt code) = ShortCode rs rt code 51
parts_of (Teq rs rt code) = ShortCode rs rt code 52
parts_of (Tne rs rt code) = ShortCode rs rt code 54
parts_of (Bltz rs imm) = Signed 1 rs 0 imm
parts_of (Bgez rs imm) = Signed 1 rs 1 imm
parts_of (Bltzl rs imm) = Signed 1 rs 2 imm
parts_of (Bgezl rs imm) = Signed 1 rs 3 imm
parts_of (Tgei rs imm) = Signed 1 rs 8 imm
parts_of (Tgeiu rs imm) = Signed 1 rs 9 imm
parts_of (Tlti rs imm) = Signed 1 rs 10 imm
parts_of (Tltiu rs imm) = Signed 1 rs 11 imm
parts_of (Teqi rs imm) = Signed 1 rs 12 imm
parts_of (Tnei rs imm) = Signed 1 rs 14 imm
parts_of (Bltzal rs imm) = Signed 1 rs 16 imm
parts_of (Bgezal rs imm) = Signed 1 rs 17 imm
parts_of (Bltzall rs imm) = Signed 1 rs 18 imm
parts_of (Bgezall rs imm) = Signed 1 rs 19 imm
parts_of (Synci rs imm) = Signed 1 rs 31 imm
parts_of (Madd rs rt) = Register 28 rs rt 0 0 0
parts_of (Maddu rs rt) = Register 28 rs rt 0 0 1
parts_of (Mul rs rt rd) = Register 28 rs rt rd 0 2
parts_of (Msub rs rt) = Register 28 rs rt 0 0 4
parts_of (Msubu rs rt) = Register 28 rs rt 0 0 5
parts_of (Clz rs rt rd) = Register 28 rs rt rd 0 32
parts_of (Clo rs rt rd) = Register 28 rs rt rd 0 33
parts_of (Ext rs rt msbd lsb) = Register 31 rs rt msbd lsb 0
parts_of (Ins rs rt msb lsb) = Register 31 rs rt msb lsb 4
parts_of (Wsbh rt rd) = Register 31 0 rt rd 2 32
parts_of (Seb rt rd) = Register 31 0 rt rd 16 32
parts_of (Seh rt rd) = Register 31 0 rt rd 24 32
parts_of (Rdhwr rt rd) = Register 31 0 rt rd 0 59

-- a number of 16 bits in two's complement
abbrev pub is_half : ℤ → Bool
is_half (pos size) = nat_lt size (2 ^ 15)
is_half (negsuc size) = nat_lt size (2 ^ 15)

-- each number fits its field's bits
abbrev pub fit : Parts → Bool
fit (Jump opcode target) = nat_lt opcode 64 && nat_lt target (2 ^ 26)
fit (Signed opcode rs rt imm) = nat_lt opcode 64 && nat_lt rs 32 && nat_lt rt 32 && is_half imm
fit (Immediate opcode rs rt imm) =
    nat_lt opcode 64 && nat_lt rs 32 && nat_lt rt 32 && nat_lt imm (2 ^ 16)
fit (Register opcode rs rt rd sa function) =
    nat_lt opcode 64 && nat_lt rs 32 && nat_lt rt 32 && nat_lt rd 32 && nat_lt sa 32
    && nat_lt function 64
fit (LongCode code function) = nat_lt code (2 ^ 20) && nat_lt function 64
fit (ShortCode rs rt code function) =
    nat_lt rs 32 && nat_lt rt 32 && nat_lt code (2 ^ 10) && nat_lt function 64

-- what a row asks besides: CLZ and CLO name their destination twice, and a field of EXT or INS
-- lies inside a register
abbrev pub is_bounded : Insn → Bool
is_bounded (Clz _ rt rd) = rt == rd
is_bounded (Clo _ rt rd) = rt == rd
is_bounded (Ext _ _ msbd lsb) = nat_le (msbd + lsb) 31
is_bounded (Ins _ _ msb lsb) = nat_le lsb msb
is_bounded _ = true

abbrev pub is_in_range : Insn → Bool
is_in_range insn = fit (parts_of insn) && is_bounded insn
