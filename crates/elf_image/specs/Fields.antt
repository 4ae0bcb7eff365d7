-- An ELF-32 file's fields: System V gABI, "ELF Header" (Elf32_Ehdr) and "Program Header" (Elf32_Phdr).
-- A field is named by its offset and its width. Numbers are stored high byte first (ELFDATA2MSB).
use Rattle.std.specs.Prelude.{ℕ, zero, suc, ◌+◌, Bool, ◌&&◌, ◌==◌, List, [], ◌∷◌, nat_lt, drop}
use Rattle.std.specs.List.{filter}
use Rattle.byteorder.specs.Endian.{big_number}
use Rattle.elf_image.specs.Span.{Span}
use Rattle.elf_image.specs.declared.program_header.ProgramHeader.{ProgramHeader}

-- Elf32_Half: the number in the two bytes at an offset
unfoldable pub half : List ℕ → ℕ → ℕ
half bytes offset = big_number 2 (drop offset bytes)

-- Elf32_Word, Elf32_Addr and Elf32_Off: the number in the four bytes at an offset
unfoldable pub word : List ℕ → ℕ → ℕ
word bytes offset = big_number 4 (drop offset bytes)

-- the fields of the file's header that a loader reads. The bytes 0 to 15 are e_ident: EI_MAG0 to EI_MAG3, EI_CLASS,
-- EI_DATA, EI_VERSION, and the rest, which is not read
abbrev pub e_magic : List ℕ → ℕ
e_magic bytes = word bytes 0

abbrev pub e_type : List ℕ → ℕ
e_type bytes = half bytes 16

abbrev pub e_machine : List ℕ → ℕ
e_machine bytes = half bytes 18

abbrev pub e_version : List ℕ → ℕ
e_version bytes = word bytes 20

abbrev pub e_entry : List ℕ → ℕ
e_entry bytes = word bytes 24

abbrev pub e_phoff : List ℕ → ℕ
e_phoff bytes = word bytes 28

abbrev pub e_flags : List ℕ → ℕ
e_flags bytes = word bytes 36

abbrev pub e_phentsize : List ℕ → ℕ
e_phentsize bytes = half bytes 42

abbrev pub e_phnum : List ℕ → ℕ
e_phnum bytes = half bytes 44

-- the program header at a place of the file. Its p_paddr at 12 and p_align at 28 are not read
abbrev pub header_at : List ℕ → ℕ → ProgramHeader
header_at bytes place = record {
  kind = word bytes place;
  offset = word bytes (place + 4);
  vaddr = word bytes (place + 8);
  filesz = word bytes (place + 16);
  memsz = word bytes (place + 20);
  flags = word bytes (place + 24);
}

-- so many program headers, which stand one after the other from a place on, 32 bytes each
abbrev pub headers_at : List ℕ → ℕ → ℕ → List ProgramHeader
headers_at bytes place zero = []
headers_at bytes place (suc n) = header_at bytes place ∷ headers_at bytes (place + 32) n

-- the file's program header table
abbrev pub program_headers : List ℕ → List ProgramHeader
program_headers bytes = headers_at bytes (e_phoff bytes) (e_phnum bytes)

-- whether a header asks for memory: a load header (PT_LOAD, 1) with a memory size above 0
abbrev pub is_load : ProgramHeader → Bool
is_load h = (h.kind == 1) && nat_lt 0 h.memsz

-- the headers that ask for memory, in the table's order
abbrev pub loads : List ℕ → List ProgramHeader
loads bytes = filter is_load (program_headers bytes)

-- the memory that a header asks for
abbrev pub span_of : ProgramHeader → Span
span_of h = record { start = h.vaddr; end = h.vaddr + h.memsz }
