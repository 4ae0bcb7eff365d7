-- The instructions of the soak program, and their words. The program is this project's own; instructions are those of MIPS32
-- Architecture for Programmers, Volume II, with their fields in the order of the word's bits (rs, rt, rd), registers have their
-- names by the System V ABI, MIPS supplement, and calls their numbers in asm/unistd.h of Linux for o32.
use Rattle.std.specs.Prelude.{ℕ, ◌+◌, ◌*◌, ◌/◌, ◌%◌, ◌^◌, ◌++◌, List, [], ◌∷◌, pos}
use Rattle.std.specs.List.{flat_map}
use Rattle.std.specs.Int.{cast_unsigned, w16, w32, to_be_bytes}
use Rattle.mips_code.specs.declared.insn.Insn.{Insn}
use Rattle.mips_code.specs.declared.insn.Insn.TheVariants.{Addiu, Addu, Lui, Ori, Sw, Syscall}
use Rattle.mips_code.specs.Words.{parts_of}
use Rattle.mips_code.specs.declared.parts.Parts.{Parts}
use Rattle.mips_code.specs.declared.parts.Parts.TheVariants.{Jump, Signed, Immediate, Register, LongCode, ShortCode}
use Rattle.soak_program.specs.Numbers.{numbers}

abbrev pub no_register : ℕ
no_register = 0

abbrev pub v0 : ℕ
v0 = 2

abbrev pub a0 : ℕ
a0 = 4

abbrev pub a1 : ℕ
a1 = 5

abbrev pub a2 : ℕ
a2 = 6

abbrev pub t1 : ℕ
t1 = 9

abbrev pub s0 : ℕ
s0 = 16

abbrev pub s1 : ℕ
s1 = 17

abbrev pub s2 : ℕ
s2 = 18

-- s0 = the address of the data; s1 = open("/s", O_RDWR | O_CREAT, 0644)
unfoldable pub start : List Insn
start =
    Lui s0 0x1000
    ∷ Addu s0 no_register a0
    ∷ Addiu no_register a1 (pos 0x102)
    ∷ Addiu no_register a2 (pos 0x1A4)
    ∷ Addiu no_register v0 (pos 4005)
    ∷ Syscall 0
    ∷ Addu v0 no_register s1
    ∷ []

-- s2 = s2 + number, stored behind the name; write(s1, the sum's address, 4)
unfoldable pub round : ℕ → List Insn
round number =
    Lui t1 (number / 2 ^ 16)
    ∷ Ori t1 t1 (number % 2 ^ 16)
    ∷ Addu s2 t1 s2
    ∷ Sw s0 s2 (pos 4)
    ∷ Addu s1 no_register a0
    ∷ Addiu s0 a1 (pos 4)
    ∷ Addiu no_register a2 (pos 4)
    ∷ Addiu no_register v0 (pos 4004)
    ∷ Syscall 0
    ∷ []

-- exit(0)
unfoldable pub finish : List Insn
finish = Addu no_register no_register a0 ∷ Addiu no_register v0 (pos 4001) ∷ Syscall 0 ∷ []

-- the program for so many numbers
abbrev pub instructions : ℕ → List Insn
instructions count = start ++ flat_map round (numbers count) ++ finish

-- the word with these fields, each in its bits
abbrev pub word_with : Parts → ℕ
word_with (Jump opcode target) = opcode * 2 ^ 26 + target
word_with (Signed opcode rs rt imm) = opcode * 2 ^ 26 + rs * 2 ^ 21 + rt * 2 ^ 16 + cast_unsigned w16 imm
word_with (Immediate opcode rs rt imm) = opcode * 2 ^ 26 + rs * 2 ^ 21 + rt * 2 ^ 16 + imm
word_with (Register opcode rs rt rd sa function) = opcode * 2 ^ 26 + rs * 2 ^ 21 + rt * 2 ^ 16 + rd * 2 ^ 11 + sa * 2 ^ 6 + function
word_with (LongCode code function) = code * 2 ^ 6 + function
word_with (ShortCode rs rt code function) = rs * 2 ^ 21 + rt * 2 ^ 16 + code * 2 ^ 6 + function

unfoldable pub word_of : Insn → ℕ
word_of insn = word_with (parts_of insn)

-- instructions as bytes, high byte first
abbrev pub code_of : List Insn → List ℕ
code_of insns = flat_map (λ insn. to_be_bytes w32 (word_of insn)) insns
