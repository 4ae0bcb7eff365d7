-- Which files are refused, and by which rule. The values are those of the System V gABI and its MIPS supplement; that these
-- rules are tried in this order, the limits of addresses and the limit of pages are this project's own.
use Rattle.std.specs.Prelude.{◌≡◌, ℕ, ◌+◌, ◌*◌, ◌%◌, Bool, true, false, not, ◌&&◌, ◌||◌, ◌==◌, List, [], ◌∷◌, ◌++◌, Option, Some, None, nat_lt, length, map, if◌then◌else◌, bit_and, slice_index}
use Rattle.std.specs.List.{list_any}
use Rattle.elf_image.specs.Span.{Span, overlaps, pages_touched}
use Rattle.elf_image.specs.Fields.{e_magic, e_type, e_machine, e_version, e_phoff, e_flags, e_phentsize, e_phnum, program_headers, loads, span_of}
use Rattle.elf_image.specs.declared.program_header.ProgramHeader.{ProgramHeader}
use Rattle.elf_image.specs.declared.refusal.ElfError.{ElfError}
use Rattle.elf_image.specs.declared.refusal.ElfError.TheVariants.{Refused, NoMemory}
use Rattle.elf_image.specs.declared.refusal.ElfRefusal.{ElfRefusal}
use Rattle.elf_image.specs.declared.refusal.ElfRefusal.TheVariants.{Short, Magic, Class, Order, Version, «Type», Machine, Abi, Table, Interp, Outside, Sizes, Address, Offset, Overlap, NoLoad, Pages}

-- the first of the rules that is broken. A rule is its refusal, and whether the file breaks it
abbrev pub first_broken : List (ElfRefusal × Bool) → Option ElfRefusal
first_broken [] = None
first_broken (rule ∷ rules) = if rule.1 then Some rule.0 else first_broken rules

-- the rules of the file's header: ELFCLASS32, ELFDATA2MSB, EV_CURRENT twice, ET_EXEC, EM_MIPS. The flags that are refused are
-- EF_MIPS_ABI2 (0x20, the n32 convention), EF_MIPS_MICROMIPS (0x02000000) and EF_MIPS_ARCH_ASE_M16 (0x04000000)
unfoldable pub header_rules : List ℕ → List (ElfRefusal × Bool)
header_rules bytes =
    (Short, nat_lt (length bytes) 52)
    ∷ (Magic, not (e_magic bytes == 0x7F454C46))
    ∷ (Class, not (slice_index bytes 4 == 1))
    ∷ (Order, not (slice_index bytes 5 == 2))
    ∷ (Version, not (slice_index bytes 6 == 1) || not (e_version bytes == 1))
    ∷ («Type», not (e_type bytes == 2))
    ∷ (Machine, not (e_machine bytes == 8))
    ∷ (Abi, not (bit_and (e_flags bytes) 0x06000020 == 0))
    ∷ (Table, nat_lt 0 (e_phnum bytes) && (not (e_phentsize bytes == 32) || nat_lt (length bytes) (e_phoff bytes + 32 * e_phnum bytes)))
    ∷ []

-- the rules of one header that asks for memory. The first says that its bytes end in the file (where it has none, its offset may
-- lie anywhere: linkers put it past the file's end), the second that they fit into its memory
abbrev pub load_rules : ℕ → List Span → ProgramHeader → List (ElfRefusal × Bool)
load_rules size earlier h =
    (Outside, nat_lt 0 h.filesz && nat_lt size (h.offset + h.filesz))
    ∷ (Sizes, nat_lt h.memsz h.filesz)
    ∷ (Address, nat_lt h.vaddr 0x1000 || nat_lt 0x7F7F0000 (h.vaddr + h.memsz))
    ∷ (Offset, not (h.offset % 4096 == h.vaddr % 4096))
    ∷ (Overlap, list_any (overlaps (span_of h)) earlier)
    ∷ []

-- the rules of such headers, one header after the other, each beside the memory that was asked for before it
abbrev pub loads_rules : ℕ → List Span → List ProgramHeader → List (ElfRefusal × Bool)
loads_rules size earlier [] = []
loads_rules size earlier (h ∷ hs) = load_rules size earlier h ++ loads_rules size (earlier ++ span_of h ∷ []) hs

-- whether there are none
abbrev pub none_of : List ProgramHeader → Bool
none_of [] = true
none_of (h ∷ hs) = false

-- the rules of all of them together
abbrev pub whole_rules : List ProgramHeader → List (ElfRefusal × Bool)
whole_rules hs = (NoLoad, none_of hs) ∷ (Pages, nat_lt 120000 (pages_touched (map span_of hs))) ∷ []

-- the seventeen rules of a file, in their order. PT_INTERP is 3
unfoldable pub rules : List ℕ → List (ElfRefusal × Bool)
rules bytes =
    header_rules bytes
    ++ (Interp, list_any (λ h. h.kind == 3) (program_headers bytes)) ∷ []
    ++ loads_rules (length bytes) [] (loads bytes)
    ++ whole_rules (loads bytes)

-- the first rule that a file breaks
abbrev pub first_failure : List ℕ → Option ElfRefusal
first_failure bytes = first_broken (rules bytes)

-- a refusal is that of the first rule that is broken; want of memory says nothing
abbrev pub IsCause : Option ElfRefusal → ElfError → Type 0
IsCause failure (Refused r) = failure ≡ Some r
IsCause failure NoMemory = Unit {0}
