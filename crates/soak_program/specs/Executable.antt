-- The executable of the soak program. Its form is that of the System V gABI, "ELF Header" (Elf32_Ehdr) and "Program Header"
-- (Elf32_Phdr), with the flags of the MIPS supplement (elf(5)); numbers stand high byte first. What stands in it, and where, is
-- this project's own.
use Rattle.std.specs.Prelude.{ℕ, ◌+◌, ◌-◌, ◌*◌, ◌/◌, ◌++◌, List, [], ◌∷◌, codes, length, replicate}
use Rattle.std.specs.List.{flat_map}
use Rattle.std.specs.Int.{w16, w32, to_be_bytes}
use Rattle.soak_program.specs.Instructions.{code_of, instructions}

-- numbers of two bytes each (Elf32_Half), and of four (Elf32_Word, Elf32_Addr, Elf32_Off)
abbrev pub halves : List ℕ → List ℕ
halves numbers = flat_map (to_be_bytes w16) numbers

abbrev pub words : List ℕ → List ℕ
words numbers = flat_map (to_be_bytes w32) numbers

-- e_ident: 0x7F, then `ELF`, ELFCLASS32, ELFDATA2MSB, EV_CURRENT, and zeros
abbrev pub ident : List ℕ
ident = 0x7F ∷ codes "ELF" ++ 1 ∷ 2 ∷ 1 ∷ replicate 9 0

-- e_type ET_EXEC, e_machine EM_MIPS; e_version, e_entry, e_phoff, e_shoff, e_flags EF_MIPS_ARCH_32 and EF_MIPS_ABI_O32; e_ehsize,
-- e_phentsize, e_phnum, and no sections: e_shentsize, e_shnum, e_shstrndx
unfoldable pub file_header : List ℕ
file_header =
    ident ++ halves (2 ∷ 8 ∷ []) ++ words (1 ∷ 0x00400000 ∷ 52 ∷ 0 ∷ 0x50001000 ∷ []) ++ halves (52 ∷ 32 ∷ 2 ∷ 0 ∷ 0 ∷ 0 ∷ [])

-- PF_X, PF_W and PF_R
abbrev pub read_execute : ℕ
read_execute = 4 + 1

abbrev pub read_write : ℕ
read_write = 4 + 2

-- PT_LOAD: p_type, p_offset, p_vaddr, p_paddr, p_filesz, p_memsz, p_flags, p_align
unfoldable pub segment_header : ℕ → ℕ → ℕ → ℕ → List ℕ
segment_header offset address size flags = words (1 ∷ offset ∷ address ∷ address ∷ size ∷ size ∷ flags ∷ 4096 ∷ [])

-- the least multiple of 4096 that is not below a size
abbrev pub page_end : ℕ → ℕ
page_end size = (size + 4095) / 4096 * 4096

-- with zeros up to there
unfoldable pub whole_pages : List ℕ → List ℕ
whole_pages bytes = bytes ++ replicate (page_end (length bytes) - length bytes) 0

-- the name of the file that is written, which a zero ends, and the sum
abbrev pub contents : List ℕ
contents = codes "/s" ++ replicate 6 0

-- for a code of so many bytes: it stands from the second page of the file on, and is loaded at 0x00400000; the data stands in
-- the first page behind it, and is loaded at 0x10000000
unfoldable pub headers : ℕ → List ℕ
headers size =
    file_header ++ segment_header 4096 0x00400000 size read_execute
    ++ segment_header (page_end (4096 + size)) 0x10000000 (length contents) read_write

abbrev pub file_of : List ℕ → List ℕ
file_of code = whole_pages (whole_pages (headers (length code)) ++ code) ++ contents

-- the file of the program for so many numbers
unfoldable pub soak_file : ℕ → List ℕ
soak_file count = file_of (code_of (instructions count))
