-- The 100 instructions of MIPS32 Release 2 that user programs have without a coprocessor, and their words: MIPS32
-- Architecture for Programmers, Volume II, one row for each instruction, by opcode, or by function or rt within an
-- opcode. Left out are floating point (COP1, COP1X, MOVF, MOVT), the system's instructions (COP0, CACHE), COP2, and
-- SDBBP.
use Rattle.std.specs.Prelude.{ℕ, ◌+◌, ◌/◌, ◌%◌, ◌^◌, ◌==◌, ◌&&◌, nat_le, nat_lt, ℤ, Bool, Option, Some, None, List, [], ◌∷◌, if◌then◌else◌}
use Rattle.std.specs.Int.{cast_signed, w16}
use Rattle.mips_code.specs.declared.insn.Insn.{Insn}
use Rattle.mips_code.specs.declared.insn.Insn.TheVariants.{J, Jal, Beq, Bne, Blez, Bgtz, Addi, Addiu, Slti, Sltiu, Andi, Ori, Xori, Lui, Beql, Bnel, Blezl, Bgtzl, Lb, Lh, Lwl, Lw, Lbu, Lhu, Lwr, Sb, Sh, Swl, Sw, Swr, Ll, Pref, Sc, Sll, Srl, Rotr, Sra, Sllv, Srlv, Rotrv, Srav, Jr, Jalr, Movz, Movn, Syscall, Break, Sync, Mfhi, Mthi, Mflo, Mtlo, Mult, Multu, Div, Divu, Add, Addu, Sub, Subu, And, Or, Xor, Nor, Slt, Sltu, Tge, Tgeu, Tlt, Tltu, Teq, Tne, Bltz, Bgez, Bltzl, Bgezl, Tgei, Tgeiu, Tlti, Tltiu, Teqi, Tnei, Bltzal, Bgezal, Bltzall, Bgezall, Synci, Madd, Maddu, Mul, Msub, Msubu, Clz, Clo, Ext, Ins, Wsbh, Seb, Seh, Rdhwr}

-- the fields of a word
abbrev pub opcode : ℕ → ℕ
opcode word = word / 2 ^ 26

abbrev pub rs : ℕ → ℕ
rs word = word / 2 ^ 21 % 32

abbrev pub rt : ℕ → ℕ
rt word = word / 2 ^ 16 % 32

abbrev pub rd : ℕ → ℕ
rd word = word / 2 ^ 11 % 32

abbrev pub sa : ℕ → ℕ
sa word = word / 2 ^ 6 % 32

abbrev pub function : ℕ → ℕ
function word = word % 64

abbrev pub target : ℕ → ℕ
target word = word % 2 ^ 26

abbrev pub immediate : ℕ → ℕ
immediate word = word % 2 ^ 16

-- bits 15 to 0 in two's complement
unfoldable pub signed_immediate : ℕ → ℤ
signed_immediate word = cast_signed w16 (immediate word)

-- bits 25 to 6, of SYSCALL and BREAK
abbrev pub long_code : ℕ → ℕ
long_code word = word / 2 ^ 6 % 2 ^ 20

-- bits 15 to 6, of a trap
abbrev pub short_code : ℕ → ℕ
short_code word = word / 2 ^ 6 % 2 ^ 10

-- What a row reads of a word: an instruction, or nothing where a field that it does not use is not
-- what it has to be.
abbrev pub Form : Type 0
Form = ℕ → Option Insn

abbrev pub only_if : Bool → Insn → Option Insn
only_if holds insn = if holds then Some insn else None

abbrev pub jump : (ℕ → Insn) → Form
jump make word = Some (make (target word))

unfoldable pub immediate_form : (ℕ → ℕ → ℤ → Insn) → Form
immediate_form make word = Some (make (rs word) (rt word) (signed_immediate word))

abbrev pub compare_zero : (ℕ → ℤ → Insn) → Form
compare_zero make word = only_if (rt word == 0) (make (rs word) (signed_immediate word))

unfoldable pub register_immediate : (ℕ → ℤ → Insn) → Form
register_immediate make word = Some (make (rs word) (signed_immediate word))

abbrev pub unsigned_immediate : (ℕ → ℕ → ℕ → Insn) → Form
unsigned_immediate make word = Some (make (rs word) (rt word) (immediate word))

abbrev pub upper_immediate : (ℕ → ℕ → Insn) → Form
upper_immediate make word = only_if (rs word == 0) (make (rt word) (immediate word))

abbrev pub shift : ℕ → (ℕ → ℕ → ℕ → Insn) → Form
shift kind make word = only_if (rs word == kind) (make (rt word) (rd word) (sa word))

abbrev pub three_registers : ℕ → (ℕ → ℕ → ℕ → Insn) → Form
three_registers kind make word = only_if (sa word == kind) (make (rs word) (rt word) (rd word))

abbrev pub jump_register : (ℕ → ℕ → Insn) → Form
jump_register make word =
    only_if (rt word == 0 && rd word == 0) (make (rs word) (sa word))

abbrev pub jump_and_link_register : (ℕ → ℕ → ℕ → Insn) → Form
jump_and_link_register make word = only_if (rt word == 0) (make (rs word) (rd word) (sa word))

abbrev pub long_code_form : (ℕ → Insn) → Form
long_code_form make word = Some (make (long_code word))

abbrev pub barrier : (ℕ → Insn) → Form
barrier make word =
    only_if (rs word == 0 && rt word == 0 && rd word == 0) (make (sa word))

abbrev pub to_register : (ℕ → Insn) → Form
to_register make word =
    only_if (rs word == 0 && rt word == 0 && sa word == 0) (make (rd word))

abbrev pub from_register : (ℕ → Insn) → Form
from_register make word =
    only_if (rt word == 0 && rd word == 0 && sa word == 0) (make (rs word))

abbrev pub two_registers : (ℕ → ℕ → Insn) → Form
two_registers make word = only_if (rd word == 0 && sa word == 0) (make (rs word) (rt word))

abbrev pub short_code_form : (ℕ → ℕ → ℕ → Insn) → Form
short_code_form make word = Some (make (rs word) (rt word) (short_code word))

-- CLZ and CLO name their destination twice
abbrev pub count : (ℕ → ℕ → ℕ → Insn) → Form
count make word =
    only_if (sa word == 0 && rt word == rd word) (make (rs word) (rt word) (rd word))

-- the field ends at bit 31 or below
abbrev pub extract : (ℕ → ℕ → ℕ → ℕ → Insn) → Form
extract make word =
    only_if (nat_le (rd word + sa word) 31) (make (rs word) (rt word) (rd word) (sa word))

-- the field ends where it begins, or above
abbrev pub insert : (ℕ → ℕ → ℕ → ℕ → Insn) → Form
insert make word =
    only_if (nat_le (sa word) (rd word)) (make (rs word) (rt word) (rd word) (sa word))

abbrev pub unary : ℕ → (ℕ → ℕ → Insn) → Form
unary kind make word = only_if (rs word == 0 && sa word == kind) (make (rt word) (rd word))

-- two rows of one number, which differ in a field
abbrev pub or_else : Option Insn → Option Insn → Option Insn
or_else (Some insn) _ = Some insn
or_else None other = other

abbrev pub either : Form → Form → Form
either first second word = or_else (first word) (second word)

-- A row: the number that picks it, and its form.
pub record Row : Type 0 where
  pub number : ℕ
  pub form : Form

abbrev pub row : ℕ → Form → Row
row number form = record { number = number; form = form }

-- by opcode, below 32
unfoldable pub plain_rows : List Row
plain_rows =
    row 2 (jump J) ∷
    row 3 (jump Jal) ∷
    row 4 (immediate_form Beq) ∷
    row 5 (immediate_form Bne) ∷
    row 6 (compare_zero Blez) ∷
    row 7 (compare_zero Bgtz) ∷
    row 8 (immediate_form Addi) ∷
    row 9 (immediate_form Addiu) ∷
    row 10 (immediate_form Slti) ∷
    row 11 (immediate_form Sltiu) ∷
    row 12 (unsigned_immediate Andi) ∷
    row 13 (unsigned_immediate Ori) ∷
    row 14 (unsigned_immediate Xori) ∷
    row 15 (upper_immediate Lui) ∷
    row 20 (immediate_form Beql) ∷
    row 21 (immediate_form Bnel) ∷
    row 22 (compare_zero Blezl) ∷
    row 23 (compare_zero Bgtzl) ∷
    []

-- by opcode, from 32
unfoldable pub memory_rows : List Row
memory_rows =
    row 32 (immediate_form Lb) ∷
    row 33 (immediate_form Lh) ∷
    row 34 (immediate_form Lwl) ∷
    row 35 (immediate_form Lw) ∷
    row 36 (immediate_form Lbu) ∷
    row 37 (immediate_form Lhu) ∷
    row 38 (immediate_form Lwr) ∷
    row 40 (immediate_form Sb) ∷
    row 41 (immediate_form Sh) ∷
    row 42 (immediate_form Swl) ∷
    row 43 (immediate_form Sw) ∷
    row 46 (immediate_form Swr) ∷
    row 48 (immediate_form Ll) ∷
    row 51 (immediate_form Pref) ∷
    row 56 (immediate_form Sc) ∷
    []

-- SPECIAL, opcode 0, by function, below 24
unfoldable pub special_rows : List Row
special_rows =
    row 0 (shift 0 Sll) ∷
    row 2 (either (shift 0 Srl) (shift 1 Rotr)) ∷
    row 3 (shift 0 Sra) ∷
    row 4 (three_registers 0 Sllv) ∷
    row 6 (either (three_registers 0 Srlv) (three_registers 1 Rotrv)) ∷
    row 7 (three_registers 0 Srav) ∷
    row 8 (jump_register Jr) ∷
    row 9 (jump_and_link_register Jalr) ∷
    row 10 (three_registers 0 Movz) ∷
    row 11 (three_registers 0 Movn) ∷
    row 12 (long_code_form Syscall) ∷
    row 13 (long_code_form Break) ∷
    row 15 (barrier Sync) ∷
    row 16 (to_register Mfhi) ∷
    row 17 (from_register Mthi) ∷
    row 18 (to_register Mflo) ∷
    row 19 (from_register Mtlo) ∷
    []

-- SPECIAL, opcode 0, by function, from 24
unfoldable pub arithmetic_rows : List Row
arithmetic_rows =
    row 24 (two_registers Mult) ∷
    row 25 (two_registers Multu) ∷
    row 26 (two_registers Div) ∷
    row 27 (two_registers Divu) ∷
    row 32 (three_registers 0 Add) ∷
    row 33 (three_registers 0 Addu) ∷
    row 34 (three_registers 0 Sub) ∷
    row 35 (three_registers 0 Subu) ∷
    row 36 (three_registers 0 And) ∷
    row 37 (three_registers 0 Or) ∷
    row 38 (three_registers 0 Xor) ∷
    row 39 (three_registers 0 Nor) ∷
    row 42 (three_registers 0 Slt) ∷
    row 43 (three_registers 0 Sltu) ∷
    row 48 (short_code_form Tge) ∷
    row 49 (short_code_form Tgeu) ∷
    row 50 (short_code_form Tlt) ∷
    row 51 (short_code_form Tltu) ∷
    row 52 (short_code_form Teq) ∷
    row 54 (short_code_form Tne) ∷
    []

-- REGIMM, opcode 1, by the field rt
unfoldable pub regimm_rows : List Row
regimm_rows =
    row 0 (register_immediate Bltz) ∷
    row 1 (register_immediate Bgez) ∷
    row 2 (register_immediate Bltzl) ∷
    row 3 (register_immediate Bgezl) ∷
    row 8 (register_immediate Tgei) ∷
    row 9 (register_immediate Tgeiu) ∷
    row 10 (register_immediate Tlti) ∷
    row 11 (register_immediate Tltiu) ∷
    row 12 (register_immediate Teqi) ∷
    row 14 (register_immediate Tnei) ∷
    row 16 (register_immediate Bltzal) ∷
    row 17 (register_immediate Bgezal) ∷
    row 18 (register_immediate Bltzall) ∷
    row 19 (register_immediate Bgezall) ∷
    row 31 (register_immediate Synci) ∷
    []

-- SPECIAL2, opcode 28, by function
unfoldable pub special2_rows : List Row
special2_rows =
    row 0 (two_registers Madd) ∷
    row 1 (two_registers Maddu) ∷
    row 2 (three_registers 0 Mul) ∷
    row 4 (two_registers Msub) ∷
    row 5 (two_registers Msubu) ∷
    row 32 (count Clz) ∷
    row 33 (count Clo) ∷
    []

-- SPECIAL3, opcode 31, by function
unfoldable pub special3_rows : List Row
special3_rows =
    row 0 (extract Ext) ∷
    row 4 (insert Ins) ∷
    row 32 (either (unary 2 Wsbh) (either (unary 16 Seb) (unary 24 Seh))) ∷
    row 59 (unary 0 Rdhwr) ∷
    []

-- what the row of this number reads of the word
abbrev pub find_row : List Row → ℕ → Form
find_row [] _ _ = None
find_row (first ∷ rows) number word =
    if first.number == number then first.form word else find_row rows number word

-- the rows of SPECIAL
abbrev pub find_special : ℕ → Form
find_special number =
    if nat_lt number 24 then find_row special_rows number else find_row arithmetic_rows number

-- the rows that the opcode alone picks
abbrev pub find_plain : ℕ → Form
find_plain number =
    if nat_lt number 32 then find_row plain_rows number else find_row memory_rows number

-- The instruction of a word, or nothing where the word is in no row.
abbrev pub instruction_of : ℕ → Option Insn
instruction_of word =
    if opcode word == 0 then find_special (function word) word
    else if opcode word == 1 then find_row regimm_rows (rt word) word
    else if opcode word == 28 then find_row special2_rows (function word) word
    else if opcode word == 31 then find_row special3_rows (function word) word
    else find_plain (opcode word) word
