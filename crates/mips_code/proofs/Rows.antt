-- Each row of the table, both ways.
use Rattle.std.proofs.Common.{◌≡◌, ℕ, ◌∙◌, ◌^◌, ◌<◌, Some, sym, refl}
use Rattle.std.specs.Prelude.{IsTrue, ◌==◌, nat_lt}
use Rattle.std.proofs.lemmas.Bool.{cond_both, eqb-true}
use Rattle.mips_code.specs.declared.insn.Insn.{Insn}
use Rattle.mips_code.specs.declared.insn.Insn.TheVariants.{J, Jal, Beq, Bne, Blez, Bgtz, Addi, Addiu, Slti, Sltiu, Andi, Ori, Xori, Lui, Beql, Bnel, Blezl, Bgtzl, Lb, Lh, Lwl, Lw, Lbu, Lhu, Lwr, Sb, Sh, Swl, Sw, Swr, Ll, Pref, Sc, Sll, Srl, Rotr, Sra, Sllv, Srlv, Rotrv, Srav, Jr, Jalr, Movz, Movn, Syscall, Break, Sync, Mfhi, Mthi, Mflo, Mtlo, Mult, Multu, Div, Divu, Add, Addu, Sub, Subu, And, Or, Xor, Nor, Slt, Sltu, Tge, Tgeu, Tlt, Tltu, Teq, Tne, Bltz, Bgez, Bltzl, Bgezl, Tgei, Tgeiu, Tlti, Tltiu, Teqi, Tnei, Bltzal, Bgezal, Bltzall, Bgezall, Synci, Madd, Maddu, Mul, Msub, Msubu, Clz, Clo, Ext, Ins, Wsbh, Seb, Seh, Rdhwr}
use Rattle.mips_code.specs.Instructions.{Form, opcode, rt, function, instruction_of, find_row, plain_rows, memory_rows, special_rows, arithmetic_rows, regimm_rows, special2_rows, special3_rows}
use Rattle.mips_code.specs.Words.{parts_of, is_in_range}
use Rattle.mips_code.specs.inside.Assembled.{word_of_parts}
use Rattle.mips_code.proofs.Forms.{Sound, sound_or, sound_row, at_special, at_regimm, at_special2, at_special3, at_plain, barrier-read, barrier-sound, compare_zero-read, compare_zero-sound, count-read, count-sound, extract-read, extract-sound, from_register-read, from_register-sound, immediate_form-read, immediate_form-sound, insert-read, insert-sound, jump-read, jump-sound, jump_and_link_register-read, jump_and_link_register-sound, jump_register-read, jump_register-sound, long_code_form-read, long_code_form-sound, register_immediate-read, register_immediate-sound, shift-read, shift-sound, short_code_form-read, short_code_form-sound, three_registers-read, three_registers-sound, to_register-read, to_register-sound, two_registers-read, two_registers-sound, unary-read, unary-sound, unsigned_immediate-read, unsigned_immediate-sound, upper_immediate-read, upper_immediate-sound}

-- the word that is built of an instruction in range is read as that instruction
pub decodes :
    (insn : Insn) → IsTrue (is_in_range insn) → instruction_of (word_of_parts (parts_of insn)) ≡ Some insn
unfolding arithmetic_rows memory_rows plain_rows regimm_rows special2_rows special3_rows special_rows
decodes (J target) h = jump-read 2 J (at_plain 2 refl refl refl refl) target h
decodes (Jal target) h = jump-read 3 Jal (at_plain 3 refl refl refl refl) target h
decodes (Beq rs rt imm) h = immediate_form-read 4 Beq (at_plain 4 refl refl refl refl) rs rt imm h
decodes (Bne rs rt imm) h = immediate_form-read 5 Bne (at_plain 5 refl refl refl refl) rs rt imm h
decodes (Blez rs imm) h = compare_zero-read 6 Blez (at_plain 6 refl refl refl refl) rs imm h
decodes (Bgtz rs imm) h = compare_zero-read 7 Bgtz (at_plain 7 refl refl refl refl) rs imm h
decodes (Addi rs rt imm) h = immediate_form-read 8 Addi (at_plain 8 refl refl refl refl) rs rt imm h
decodes (Addiu rs rt imm) h = immediate_form-read 9 Addiu (at_plain 9 refl refl refl refl) rs rt imm h
decodes (Slti rs rt imm) h = immediate_form-read 10 Slti (at_plain 10 refl refl refl refl) rs rt imm h
decodes (Sltiu rs rt imm) h = immediate_form-read 11 Sltiu (at_plain 11 refl refl refl refl) rs rt imm h
decodes (Andi rs rt imm) h = unsigned_immediate-read 12 Andi (at_plain 12 refl refl refl refl) rs rt imm h
decodes (Ori rs rt imm) h = unsigned_immediate-read 13 Ori (at_plain 13 refl refl refl refl) rs rt imm h
decodes (Xori rs rt imm) h = unsigned_immediate-read 14 Xori (at_plain 14 refl refl refl refl) rs rt imm h
decodes (Lui rt imm) h = upper_immediate-read 15 Lui (at_plain 15 refl refl refl refl) rt imm h
decodes (Beql rs rt imm) h = immediate_form-read 20 Beql (at_plain 20 refl refl refl refl) rs rt imm h
decodes (Bnel rs rt imm) h = immediate_form-read 21 Bnel (at_plain 21 refl refl refl refl) rs rt imm h
decodes (Blezl rs imm) h = compare_zero-read 22 Blezl (at_plain 22 refl refl refl refl) rs imm h
decodes (Bgtzl rs imm) h = compare_zero-read 23 Bgtzl (at_plain 23 refl refl refl refl) rs imm h
decodes (Lb rs rt imm) h = immediate_form-read 32 Lb (at_plain 32 refl refl refl refl) rs rt imm h
decodes (Lh rs rt imm) h = immediate_form-read 33 Lh (at_plain 33 refl refl refl refl) rs rt imm h
decodes (Lwl rs rt imm) h = immediate_form-read 34 Lwl (at_plain 34 refl refl refl refl) rs rt imm h
decodes (Lw rs rt imm) h = immediate_form-read 35 Lw (at_plain 35 refl refl refl refl) rs rt imm h
decodes (Lbu rs rt imm) h = immediate_form-read 36 Lbu (at_plain 36 refl refl refl refl) rs rt imm h
decodes (Lhu rs rt imm) h = immediate_form-read 37 Lhu (at_plain 37 refl refl refl refl) rs rt imm h
decodes (Lwr rs rt imm) h = immediate_form-read 38 Lwr (at_plain 38 refl refl refl refl) rs rt imm h
decodes (Sb rs rt imm) h = immediate_form-read 40 Sb (at_plain 40 refl refl refl refl) rs rt imm h
decodes (Sh rs rt imm) h = immediate_form-read 41 Sh (at_plain 41 refl refl refl refl) rs rt imm h
decodes (Swl rs rt imm) h = immediate_form-read 42 Swl (at_plain 42 refl refl refl refl) rs rt imm h
decodes (Sw rs rt imm) h = immediate_form-read 43 Sw (at_plain 43 refl refl refl refl) rs rt imm h
decodes (Swr rs rt imm) h = immediate_form-read 46 Swr (at_plain 46 refl refl refl refl) rs rt imm h
decodes (Ll rs rt imm) h = immediate_form-read 48 Ll (at_plain 48 refl refl refl refl) rs rt imm h
decodes (Pref rs hint imm) h = immediate_form-read 51 Pref (at_plain 51 refl refl refl refl) rs hint imm h
decodes (Sc rs rt imm) h = immediate_form-read 56 Sc (at_plain 56 refl refl refl refl) rs rt imm h
decodes (Sll rt rd sa) h = shift-read 0 0 0 Sll rt rd sa (λ word f. at_special 0 word f.opcode_is f.function_is) h
decodes (Srl rt rd sa) h = shift-read 0 2 0 Srl rt rd sa (λ word f. at_special 2 word f.opcode_is f.function_is ∙ rw f.rs_is refl) h
decodes (Rotr rt rd sa) h = shift-read 0 2 1 Rotr rt rd sa (λ word f. at_special 2 word f.opcode_is f.function_is ∙ rw f.rs_is refl) h
decodes (Sra rt rd sa) h = shift-read 0 3 0 Sra rt rd sa (λ word f. at_special 3 word f.opcode_is f.function_is) h
decodes (Sllv rs rt rd) h = three_registers-read 0 4 0 Sllv rs rt rd (λ word f. at_special 4 word f.opcode_is f.function_is) h
decodes (Srlv rs rt rd) h = three_registers-read 0 6 0 Srlv rs rt rd (λ word f. at_special 6 word f.opcode_is f.function_is ∙ rw f.sa_is refl) h
decodes (Rotrv rs rt rd) h = three_registers-read 0 6 1 Rotrv rs rt rd (λ word f. at_special 6 word f.opcode_is f.function_is ∙ rw f.sa_is refl) h
decodes (Srav rs rt rd) h = three_registers-read 0 7 0 Srav rs rt rd (λ word f. at_special 7 word f.opcode_is f.function_is) h
decodes (Jr rs hint) h = jump_register-read 0 8 Jr rs hint (λ word f. at_special 8 word f.opcode_is f.function_is) h
decodes (Jalr rs rd hint) h = jump_and_link_register-read 0 9 Jalr rs rd hint (λ word f. at_special 9 word f.opcode_is f.function_is) h
decodes (Movz rs rt rd) h = three_registers-read 0 10 0 Movz rs rt rd (λ word f. at_special 10 word f.opcode_is f.function_is) h
decodes (Movn rs rt rd) h = three_registers-read 0 11 0 Movn rs rt rd (λ word f. at_special 11 word f.opcode_is f.function_is) h
decodes (Syscall code) h = long_code_form-read 12 Syscall (at_special 12) code h
decodes (Break code) h = long_code_form-read 13 Break (at_special 13) code h
decodes (Sync kind) h = barrier-read 0 15 Sync kind (λ word f. at_special 15 word f.opcode_is f.function_is) h
decodes (Mfhi rd) h = to_register-read 0 16 Mfhi rd (λ word f. at_special 16 word f.opcode_is f.function_is) h
decodes (Mthi rs) h = from_register-read 0 17 Mthi rs (λ word f. at_special 17 word f.opcode_is f.function_is) h
decodes (Mflo rd) h = to_register-read 0 18 Mflo rd (λ word f. at_special 18 word f.opcode_is f.function_is) h
decodes (Mtlo rs) h = from_register-read 0 19 Mtlo rs (λ word f. at_special 19 word f.opcode_is f.function_is) h
decodes (Mult rs rt) h = two_registers-read 0 24 Mult rs rt (λ word f. at_special 24 word f.opcode_is f.function_is) h
decodes (Multu rs rt) h = two_registers-read 0 25 Multu rs rt (λ word f. at_special 25 word f.opcode_is f.function_is) h
decodes (Div rs rt) h = two_registers-read 0 26 Div rs rt (λ word f. at_special 26 word f.opcode_is f.function_is) h
decodes (Divu rs rt) h = two_registers-read 0 27 Divu rs rt (λ word f. at_special 27 word f.opcode_is f.function_is) h
decodes (Add rs rt rd) h = three_registers-read 0 32 0 Add rs rt rd (λ word f. at_special 32 word f.opcode_is f.function_is) h
decodes (Addu rs rt rd) h = three_registers-read 0 33 0 Addu rs rt rd (λ word f. at_special 33 word f.opcode_is f.function_is) h
decodes (Sub rs rt rd) h = three_registers-read 0 34 0 Sub rs rt rd (λ word f. at_special 34 word f.opcode_is f.function_is) h
decodes (Subu rs rt rd) h = three_registers-read 0 35 0 Subu rs rt rd (λ word f. at_special 35 word f.opcode_is f.function_is) h
decodes (And rs rt rd) h = three_registers-read 0 36 0 And rs rt rd (λ word f. at_special 36 word f.opcode_is f.function_is) h
decodes (Or rs rt rd) h = three_registers-read 0 37 0 Or rs rt rd (λ word f. at_special 37 word f.opcode_is f.function_is) h
decodes (Xor rs rt rd) h = three_registers-read 0 38 0 Xor rs rt rd (λ word f. at_special 38 word f.opcode_is f.function_is) h
decodes (Nor rs rt rd) h = three_registers-read 0 39 0 Nor rs rt rd (λ word f. at_special 39 word f.opcode_is f.function_is) h
decodes (Slt rs rt rd) h = three_registers-read 0 42 0 Slt rs rt rd (λ word f. at_special 42 word f.opcode_is f.function_is) h
decodes (Sltu rs rt rd) h = three_registers-read 0 43 0 Sltu rs rt rd (λ word f. at_special 43 word f.opcode_is f.function_is) h
decodes (Tge rs rt code) h = short_code_form-read 48 Tge (at_special 48) rs rt code h
decodes (Tgeu rs rt code) h = short_code_form-read 49 Tgeu (at_special 49) rs rt code h
decodes (Tlt rs rt code) h = short_code_form-read 50 Tlt (at_special 50) rs rt code h
decodes (Tltu rs rt code) h = short_code_form-read 51 Tltu (at_special 51) rs rt code h
decodes (Teq rs rt code) h = short_code_form-read 52 Teq (at_special 52) rs rt code h
decodes (Tne rs rt code) h = short_code_form-read 54 Tne (at_special 54) rs rt code h
decodes (Bltz rs imm) h = register_immediate-read 0 Bltz (at_regimm 0) rs imm h
decodes (Bgez rs imm) h = register_immediate-read 1 Bgez (at_regimm 1) rs imm h
decodes (Bltzl rs imm) h = register_immediate-read 2 Bltzl (at_regimm 2) rs imm h
decodes (Bgezl rs imm) h = register_immediate-read 3 Bgezl (at_regimm 3) rs imm h
decodes (Tgei rs imm) h = register_immediate-read 8 Tgei (at_regimm 8) rs imm h
decodes (Tgeiu rs imm) h = register_immediate-read 9 Tgeiu (at_regimm 9) rs imm h
decodes (Tlti rs imm) h = register_immediate-read 10 Tlti (at_regimm 10) rs imm h
decodes (Tltiu rs imm) h = register_immediate-read 11 Tltiu (at_regimm 11) rs imm h
decodes (Teqi rs imm) h = register_immediate-read 12 Teqi (at_regimm 12) rs imm h
decodes (Tnei rs imm) h = register_immediate-read 14 Tnei (at_regimm 14) rs imm h
decodes (Bltzal rs imm) h = register_immediate-read 16 Bltzal (at_regimm 16) rs imm h
decodes (Bgezal rs imm) h = register_immediate-read 17 Bgezal (at_regimm 17) rs imm h
decodes (Bltzall rs imm) h = register_immediate-read 18 Bltzall (at_regimm 18) rs imm h
decodes (Bgezall rs imm) h = register_immediate-read 19 Bgezall (at_regimm 19) rs imm h
decodes (Synci rs imm) h = register_immediate-read 31 Synci (at_regimm 31) rs imm h
decodes (Madd rs rt) h = two_registers-read 28 0 Madd rs rt (λ word f. at_special2 0 word f.opcode_is f.function_is) h
decodes (Maddu rs rt) h = two_registers-read 28 1 Maddu rs rt (λ word f. at_special2 1 word f.opcode_is f.function_is) h
decodes (Mul rs rt rd) h = three_registers-read 28 2 0 Mul rs rt rd (λ word f. at_special2 2 word f.opcode_is f.function_is) h
decodes (Msub rs rt) h = two_registers-read 28 4 Msub rs rt (λ word f. at_special2 4 word f.opcode_is f.function_is) h
decodes (Msubu rs rt) h = two_registers-read 28 5 Msubu rs rt (λ word f. at_special2 5 word f.opcode_is f.function_is) h
decodes (Clz rs rt rd) h = count-read 28 32 Clz rs rt rd (λ word f. at_special2 32 word f.opcode_is f.function_is) h
decodes (Clo rs rt rd) h = count-read 28 33 Clo rs rt rd (λ word f. at_special2 33 word f.opcode_is f.function_is) h
decodes (Ext rs rt msbd lsb) h = extract-read 31 0 Ext rs rt msbd lsb (λ word f. at_special3 0 word f.opcode_is f.function_is) h
decodes (Ins rs rt msb lsb) h = insert-read 31 4 Ins rs rt msb lsb (λ word f. at_special3 4 word f.opcode_is f.function_is) h
decodes (Wsbh rt rd) h = unary-read 31 32 2 Wsbh rt rd (λ word f. at_special3 32 word f.opcode_is f.function_is ∙ rw f.rs_is (rw f.sa_is refl)) h
decodes (Seb rt rd) h = unary-read 31 32 16 Seb rt rd (λ word f. at_special3 32 word f.opcode_is f.function_is ∙ rw f.rs_is (rw f.sa_is refl)) h
decodes (Seh rt rd) h = unary-read 31 32 24 Seh rt rd (λ word f. at_special3 32 word f.opcode_is f.function_is ∙ rw f.rs_is (rw f.sa_is refl)) h
decodes (Rdhwr rt rd) h = unary-read 31 59 0 Rdhwr rt rd (λ word f. at_special3 59 word f.opcode_is f.function_is) h

plain-sound :
    (n word : ℕ) → word < 2 ^ 32 → opcode word ≡ n
    → Sound word (find_row plain_rows n word)
unfolding plain_rows
plain-sound n word lt en =
    sound_row plain_rows n word (
      λ e. (jump-sound 2 J word lt (en ∙ sym e) (λ a. refl) (λ a. refl)),
      (
        λ e. (jump-sound 3 Jal word lt (en ∙ sym e) (λ a. refl) (λ a. refl)),
        (
          λ e. (immediate_form-sound 4 Beq word lt (en ∙ sym e) (λ a b c. refl) (λ a b c. refl)),
          (
            λ e. (immediate_form-sound 5 Bne word lt (en ∙ sym e) (λ a b c. refl) (λ a b c. refl)),
            (
              λ e. (compare_zero-sound 6 Blez word lt (en ∙ sym e) (λ a b. refl) (λ a b. refl)),
              (
                λ e. (compare_zero-sound 7 Bgtz word lt (en ∙ sym e) (λ a b. refl) (λ a b. refl)),
                (
                  λ e. (immediate_form-sound 8 Addi word lt (en ∙ sym e) (λ a b c. refl) (λ a b c. refl)),
                  (
                    λ e. (immediate_form-sound 9 Addiu word lt (en ∙ sym e) (λ a b c. refl) (λ a b c. refl)),
                    (
                      λ e. (immediate_form-sound 10 Slti word lt (en ∙ sym e) (λ a b c. refl) (λ a b c. refl)),
                      (
                        λ e. (immediate_form-sound 11 Sltiu word lt (en ∙ sym e) (λ a b c. refl) (λ a b c. refl)),
                        (
                          λ e. (unsigned_immediate-sound 12 Andi word lt (en ∙ sym e) (λ a b c. refl) (λ a b c. refl)),
                          (
                            λ e. (unsigned_immediate-sound 13 Ori word lt (en ∙ sym e) (λ a b c. refl) (λ a b c. refl)),
                            (
                              λ e. (unsigned_immediate-sound 14 Xori word lt (en ∙ sym e) (λ a b c. refl) (λ a b c. refl)),
                              (
                                λ e. (upper_immediate-sound 15 Lui word lt (en ∙ sym e) (λ a b. refl) (λ a b. refl)),
                                (
                                  λ e. (immediate_form-sound 20 Beql word lt (en ∙ sym e) (λ a b c. refl) (λ a b c. refl)),
                                  (
                                    λ e. (immediate_form-sound 21 Bnel word lt (en ∙ sym e) (λ a b c. refl) (λ a b c. refl)),
                                    (
                                      λ e. (compare_zero-sound 22 Blezl word lt (en ∙ sym e) (λ a b. refl) (λ a b. refl)),
                                      (
                                        λ e. (compare_zero-sound 23 Bgtzl word lt (en ∙ sym e) (λ a b. refl) (λ a b. refl)),
                                        tt,
                                      ),
                                    ),
                                  ),
                                ),
                              ),
                            ),
                          ),
                        ),
                      ),
                    ),
                  ),
                ),
              ),
            ),
          ),
        ),
      ),
    )

memory-sound :
    (n word : ℕ) → word < 2 ^ 32 → opcode word ≡ n
    → Sound word (find_row memory_rows n word)
unfolding memory_rows
memory-sound n word lt en =
    sound_row memory_rows n word (
      λ e. (immediate_form-sound 32 Lb word lt (en ∙ sym e) (λ a b c. refl) (λ a b c. refl)),
      (
        λ e. (immediate_form-sound 33 Lh word lt (en ∙ sym e) (λ a b c. refl) (λ a b c. refl)),
        (
          λ e. (immediate_form-sound 34 Lwl word lt (en ∙ sym e) (λ a b c. refl) (λ a b c. refl)),
          (
            λ e. (immediate_form-sound 35 Lw word lt (en ∙ sym e) (λ a b c. refl) (λ a b c. refl)),
            (
              λ e. (immediate_form-sound 36 Lbu word lt (en ∙ sym e) (λ a b c. refl) (λ a b c. refl)),
              (
                λ e. (immediate_form-sound 37 Lhu word lt (en ∙ sym e) (λ a b c. refl) (λ a b c. refl)),
                (
                  λ e. (immediate_form-sound 38 Lwr word lt (en ∙ sym e) (λ a b c. refl) (λ a b c. refl)),
                  (
                    λ e. (immediate_form-sound 40 Sb word lt (en ∙ sym e) (λ a b c. refl) (λ a b c. refl)),
                    (
                      λ e. (immediate_form-sound 41 Sh word lt (en ∙ sym e) (λ a b c. refl) (λ a b c. refl)),
                      (
                        λ e. (immediate_form-sound 42 Swl word lt (en ∙ sym e) (λ a b c. refl) (λ a b c. refl)),
                        (
                          λ e. (immediate_form-sound 43 Sw word lt (en ∙ sym e) (λ a b c. refl) (λ a b c. refl)),
                          (
                            λ e. (immediate_form-sound 46 Swr word lt (en ∙ sym e) (λ a b c. refl) (λ a b c. refl)),
                            (
                              λ e. (immediate_form-sound 48 Ll word lt (en ∙ sym e) (λ a b c. refl) (λ a b c. refl)),
                              (
                                λ e. (immediate_form-sound 51 Pref word lt (en ∙ sym e) (λ a b c. refl) (λ a b c. refl)),
                                (
                                  λ e. (immediate_form-sound 56 Sc word lt (en ∙ sym e) (λ a b c. refl) (λ a b c. refl)),
                                  tt,
                                ),
                              ),
                            ),
                          ),
                        ),
                      ),
                    ),
                  ),
                ),
              ),
            ),
          ),
        ),
      ),
    )

special-sound :
    (n word : ℕ) → word < 2 ^ 32 → opcode word ≡ 0 → function word ≡ n
    → Sound word (find_row special_rows n word)
unfolding special_rows
special-sound n word lt eo en =
    sound_row special_rows n word (
      λ e. (shift-sound 0 0 0 Sll word lt eo (en ∙ sym e) (λ a b c. refl) (λ a b c. refl)),
      (
        λ e. (sound_or _ _ word (shift-sound 0 2 0 Srl word lt eo (en ∙ sym e) (λ a b c. refl) (λ a b c. refl)) (shift-sound 0 2 1 Rotr word lt eo (en ∙ sym e) (λ a b c. refl) (λ a b c. refl))),
        (
          λ e. (shift-sound 0 3 0 Sra word lt eo (en ∙ sym e) (λ a b c. refl) (λ a b c. refl)),
          (
            λ e. (three_registers-sound 0 4 0 Sllv word lt eo (en ∙ sym e) (λ a b c. refl) (λ a b c. refl)),
            (
              λ e. (sound_or _ _ word (three_registers-sound 0 6 0 Srlv word lt eo (en ∙ sym e) (λ a b c. refl) (λ a b c. refl)) (three_registers-sound 0 6 1 Rotrv word lt eo (en ∙ sym e) (λ a b c. refl) (λ a b c. refl))),
              (
                λ e. (three_registers-sound 0 7 0 Srav word lt eo (en ∙ sym e) (λ a b c. refl) (λ a b c. refl)),
                (
                  λ e. (jump_register-sound 0 8 Jr word lt eo (en ∙ sym e) (λ a b. refl) (λ a b. refl)),
                  (
                    λ e. (jump_and_link_register-sound 0 9 Jalr word lt eo (en ∙ sym e) (λ a b c. refl) (λ a b c. refl)),
                    (
                      λ e. (three_registers-sound 0 10 0 Movz word lt eo (en ∙ sym e) (λ a b c. refl) (λ a b c. refl)),
                      (
                        λ e. (three_registers-sound 0 11 0 Movn word lt eo (en ∙ sym e) (λ a b c. refl) (λ a b c. refl)),
                        (
                          λ e. (long_code_form-sound 12 Syscall word lt eo (en ∙ sym e) (λ a. refl) (λ a. refl)),
                          (
                            λ e. (long_code_form-sound 13 Break word lt eo (en ∙ sym e) (λ a. refl) (λ a. refl)),
                            (
                              λ e. (barrier-sound 0 15 Sync word lt eo (en ∙ sym e) (λ a. refl) (λ a. refl)),
                              (
                                λ e. (to_register-sound 0 16 Mfhi word lt eo (en ∙ sym e) (λ a. refl) (λ a. refl)),
                                (
                                  λ e. (from_register-sound 0 17 Mthi word lt eo (en ∙ sym e) (λ a. refl) (λ a. refl)),
                                  (
                                    λ e. (to_register-sound 0 18 Mflo word lt eo (en ∙ sym e) (λ a. refl) (λ a. refl)),
                                    (
                                      λ e. (from_register-sound 0 19 Mtlo word lt eo (en ∙ sym e) (λ a. refl) (λ a. refl)),
                                      tt,
                                    ),
                                  ),
                                ),
                              ),
                            ),
                          ),
                        ),
                      ),
                    ),
                  ),
                ),
              ),
            ),
          ),
        ),
      ),
    )

arithmetic-sound :
    (n word : ℕ) → word < 2 ^ 32 → opcode word ≡ 0 → function word ≡ n
    → Sound word (find_row arithmetic_rows n word)
unfolding arithmetic_rows
arithmetic-sound n word lt eo en =
    sound_row arithmetic_rows n word (
      λ e. (two_registers-sound 0 24 Mult word lt eo (en ∙ sym e) (λ a b. refl) (λ a b. refl)),
      (
        λ e. (two_registers-sound 0 25 Multu word lt eo (en ∙ sym e) (λ a b. refl) (λ a b. refl)),
        (
          λ e. (two_registers-sound 0 26 Div word lt eo (en ∙ sym e) (λ a b. refl) (λ a b. refl)),
          (
            λ e. (two_registers-sound 0 27 Divu word lt eo (en ∙ sym e) (λ a b. refl) (λ a b. refl)),
            (
              λ e. (three_registers-sound 0 32 0 Add word lt eo (en ∙ sym e) (λ a b c. refl) (λ a b c. refl)),
              (
                λ e. (three_registers-sound 0 33 0 Addu word lt eo (en ∙ sym e) (λ a b c. refl) (λ a b c. refl)),
                (
                  λ e. (three_registers-sound 0 34 0 Sub word lt eo (en ∙ sym e) (λ a b c. refl) (λ a b c. refl)),
                  (
                    λ e. (three_registers-sound 0 35 0 Subu word lt eo (en ∙ sym e) (λ a b c. refl) (λ a b c. refl)),
                    (
                      λ e. (three_registers-sound 0 36 0 And word lt eo (en ∙ sym e) (λ a b c. refl) (λ a b c. refl)),
                      (
                        λ e. (three_registers-sound 0 37 0 Or word lt eo (en ∙ sym e) (λ a b c. refl) (λ a b c. refl)),
                        (
                          λ e. (three_registers-sound 0 38 0 Xor word lt eo (en ∙ sym e) (λ a b c. refl) (λ a b c. refl)),
                          (
                            λ e. (three_registers-sound 0 39 0 Nor word lt eo (en ∙ sym e) (λ a b c. refl) (λ a b c. refl)),
                            (
                              λ e. (three_registers-sound 0 42 0 Slt word lt eo (en ∙ sym e) (λ a b c. refl) (λ a b c. refl)),
                              (
                                λ e. (three_registers-sound 0 43 0 Sltu word lt eo (en ∙ sym e) (λ a b c. refl) (λ a b c. refl)),
                                (
                                  λ e. (short_code_form-sound 48 Tge word lt eo (en ∙ sym e) (λ a b c. refl) (λ a b c. refl)),
                                  (
                                    λ e. (short_code_form-sound 49 Tgeu word lt eo (en ∙ sym e) (λ a b c. refl) (λ a b c. refl)),
                                    (
                                      λ e. (short_code_form-sound 50 Tlt word lt eo (en ∙ sym e) (λ a b c. refl) (λ a b c. refl)),
                                      (
                                        λ e. (short_code_form-sound 51 Tltu word lt eo (en ∙ sym e) (λ a b c. refl) (λ a b c. refl)),
                                        (
                                          λ e. (short_code_form-sound 52 Teq word lt eo (en ∙ sym e) (λ a b c. refl) (λ a b c. refl)),
                                          (
                                            λ e. (short_code_form-sound 54 Tne word lt eo (en ∙ sym e) (λ a b c. refl) (λ a b c. refl)),
                                            tt,
                                          ),
                                        ),
                                      ),
                                    ),
                                  ),
                                ),
                              ),
                            ),
                          ),
                        ),
                      ),
                    ),
                  ),
                ),
              ),
            ),
          ),
        ),
      ),
    )

regimm-sound :
    (n word : ℕ) → word < 2 ^ 32 → opcode word ≡ 1 → rt word ≡ n
    → Sound word (find_row regimm_rows n word)
unfolding regimm_rows
regimm-sound n word lt eo en =
    sound_row regimm_rows n word (
      λ e. (register_immediate-sound 0 Bltz word lt eo (en ∙ sym e) (λ a b. refl) (λ a b. refl)),
      (
        λ e. (register_immediate-sound 1 Bgez word lt eo (en ∙ sym e) (λ a b. refl) (λ a b. refl)),
        (
          λ e. (register_immediate-sound 2 Bltzl word lt eo (en ∙ sym e) (λ a b. refl) (λ a b. refl)),
          (
            λ e. (register_immediate-sound 3 Bgezl word lt eo (en ∙ sym e) (λ a b. refl) (λ a b. refl)),
            (
              λ e. (register_immediate-sound 8 Tgei word lt eo (en ∙ sym e) (λ a b. refl) (λ a b. refl)),
              (
                λ e. (register_immediate-sound 9 Tgeiu word lt eo (en ∙ sym e) (λ a b. refl) (λ a b. refl)),
                (
                  λ e. (register_immediate-sound 10 Tlti word lt eo (en ∙ sym e) (λ a b. refl) (λ a b. refl)),
                  (
                    λ e. (register_immediate-sound 11 Tltiu word lt eo (en ∙ sym e) (λ a b. refl) (λ a b. refl)),
                    (
                      λ e. (register_immediate-sound 12 Teqi word lt eo (en ∙ sym e) (λ a b. refl) (λ a b. refl)),
                      (
                        λ e. (register_immediate-sound 14 Tnei word lt eo (en ∙ sym e) (λ a b. refl) (λ a b. refl)),
                        (
                          λ e. (register_immediate-sound 16 Bltzal word lt eo (en ∙ sym e) (λ a b. refl) (λ a b. refl)),
                          (
                            λ e. (register_immediate-sound 17 Bgezal word lt eo (en ∙ sym e) (λ a b. refl) (λ a b. refl)),
                            (
                              λ e. (register_immediate-sound 18 Bltzall word lt eo (en ∙ sym e) (λ a b. refl) (λ a b. refl)),
                              (
                                λ e. (register_immediate-sound 19 Bgezall word lt eo (en ∙ sym e) (λ a b. refl) (λ a b. refl)),
                                (
                                  λ e. (register_immediate-sound 31 Synci word lt eo (en ∙ sym e) (λ a b. refl) (λ a b. refl)),
                                  tt,
                                ),
                              ),
                            ),
                          ),
                        ),
                      ),
                    ),
                  ),
                ),
              ),
            ),
          ),
        ),
      ),
    )

special2-sound :
    (n word : ℕ) → word < 2 ^ 32 → opcode word ≡ 28 → function word ≡ n
    → Sound word (find_row special2_rows n word)
unfolding special2_rows
special2-sound n word lt eo en =
    sound_row special2_rows n word (
      λ e. (two_registers-sound 28 0 Madd word lt eo (en ∙ sym e) (λ a b. refl) (λ a b. refl)),
      (
        λ e. (two_registers-sound 28 1 Maddu word lt eo (en ∙ sym e) (λ a b. refl) (λ a b. refl)),
        (
          λ e. (three_registers-sound 28 2 0 Mul word lt eo (en ∙ sym e) (λ a b c. refl) (λ a b c. refl)),
          (
            λ e. (two_registers-sound 28 4 Msub word lt eo (en ∙ sym e) (λ a b. refl) (λ a b. refl)),
            (
              λ e. (two_registers-sound 28 5 Msubu word lt eo (en ∙ sym e) (λ a b. refl) (λ a b. refl)),
              (
                λ e. (count-sound 28 32 Clz word lt eo (en ∙ sym e) (λ a b c. refl) (λ a b c. refl)),
                (
                  λ e. (count-sound 28 33 Clo word lt eo (en ∙ sym e) (λ a b c. refl) (λ a b c. refl)),
                  tt,
                ),
              ),
            ),
          ),
        ),
      ),
    )

special3-sound :
    (n word : ℕ) → word < 2 ^ 32 → opcode word ≡ 31 → function word ≡ n
    → Sound word (find_row special3_rows n word)
unfolding special3_rows
special3-sound n word lt eo en =
    sound_row special3_rows n word (
      λ e. (extract-sound 31 0 Ext word lt eo (en ∙ sym e) (λ a b c d. refl) (λ a b c d. refl)),
      (
        λ e. (insert-sound 31 4 Ins word lt eo (en ∙ sym e) (λ a b c d. refl) (λ a b c d. refl)),
        (
          λ e. (sound_or _ _ word (unary-sound 31 32 2 Wsbh word lt eo (en ∙ sym e) (λ a b. refl) (λ a b. refl)) (sound_or _ _ word (unary-sound 31 32 16 Seb word lt eo (en ∙ sym e) (λ a b. refl) (λ a b. refl)) (unary-sound 31 32 24 Seh word lt eo (en ∙ sym e) (λ a b. refl) (λ a b. refl)))),
          (
            λ e. (unary-sound 31 59 0 Rdhwr word lt eo (en ∙ sym e) (λ a b. refl) (λ a b. refl)),
            tt,
          ),
        ),
      ),
    )

-- what is read of a word is in range, and builds that word
pub sound : (word : ℕ) → word < 2 ^ 32 → Sound word (instruction_of word)
sound word lt =
    cond_both (opcode word == 0) _ _ (Sound word)
    (λ e.
    cond_both {A = Form} (nat_lt (function word) 24) _ _ (λ form. Sound word (form word))
    (λ _. special-sound (function word) word lt (eqb-true _ _ e) refl)
    (λ _. arithmetic-sound (function word) word lt (eqb-true _ _ e) refl))
    (λ _.
    cond_both (opcode word == 1) _ _ (Sound word)
    (λ e. regimm-sound (rt word) word lt (eqb-true _ _ e) refl)
    (λ _.
    cond_both (opcode word == 28) _ _ (Sound word)
    (λ e. special2-sound (function word) word lt (eqb-true _ _ e) refl)
    (λ _.
    cond_both (opcode word == 31) _ _ (Sound word)
    (λ e. special3-sound (function word) word lt (eqb-true _ _ e) refl)
    (λ _.
    cond_both {A = Form} (nat_lt (opcode word) 32) _ _ (λ form. Sound word (form word))
    (λ _. plain-sound (opcode word) word lt refl)
    (λ _. memory-sound (opcode word) word lt refl)))))
