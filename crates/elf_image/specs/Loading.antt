-- What a file that breaks no rule asks for, and what a plan keeps.
-- Source: System V gABI, "Program Header" and "Program Loading", and mmap(2) for protections.
use Rattle.std.specs.Prelude.{◌≡◌, ℕ, ◌+◌, ◌-◌, ◌*◌, ◌/◌, ◌%◌, ◌<◌, ◌≤◌, Bool, false, ◌&&◌, List, Option, Some, None, nat_le, length, map, take, drop}
use Rattle.std.specs.List.{find, All, AllPairs}
use Rattle.elf_image.specs.Span.{Span, overlaps, pages_touched}
use Rattle.elf_image.specs.Fields.{e_entry, e_phoff, e_phnum, loads}
use Rattle.elf_image.specs.declared.program_header.ProgramHeader.{ProgramHeader}
use Rattle.elf_image.specs.declared.load_plan.Segment.{Segment}
use Rattle.elf_image.specs.declared.load_plan.Plan.{Plan}

-- a program header's flags PF_X 1, PF_W 2 and PF_R 4 as PROT_READ 1, PROT_WRITE 2 and PROT_EXEC 4. Other bits are not read
abbrev pub protection_of : ℕ → ℕ
protection_of flags = flags / 4 % 2 + 2 * (flags / 2 % 2) + 4 * (flags % 2)

-- the segment that a header asks for
abbrev pub segment_of : List ℕ → ProgramHeader → Segment
segment_of bytes h = record {
  vaddr = h.vaddr;
  memsz = h.memsz;
  prot = protection_of h.flags;
  bytes = take h.filesz (drop h.offset bytes);
}

-- whether a header's bytes in the file hold the `size` bytes at `place`
abbrev pub holds : ℕ → ℕ → ProgramHeader → Bool
holds place size h = nat_le h.offset place && nat_le (place + size) (h.offset + h.filesz)

-- the address of what stands at a place of the file, by the header whose bytes hold it, and 0 where none does
abbrev pub address_by : ℕ → Option ProgramHeader → ℕ
address_by place None = 0
address_by place (Some h) = h.vaddr + (place - h.offset)

-- the address of the program header table in memory: by the first header, in the table's order, whose bytes in the file hold the whole table
abbrev pub table_address : List ℕ → ℕ
table_address bytes = address_by (e_phoff bytes) (find (holds (e_phoff bytes) (32 * e_phnum bytes)) (loads bytes))

-- what a file asks for
abbrev pub plan_of : List ℕ → Plan
plan_of bytes = record {
  entry = e_entry bytes;
  phdr = table_address bytes;
  phnum = e_phnum bytes;
  segments = map (segment_of bytes) (loads bytes);
}

-- the memory of a segment
abbrev pub segment_span : Segment → Span
segment_span s = record { start = s.vaddr; end = s.vaddr + s.memsz }

-- a segment by itself: it is not empty, its bytes fit into it, its protection is one, and it lies from 0x1000 up to the stack at 0x7F7F0000
pub record IsValidSegment (s : Segment) : Type 0 where
  pub size : 0 < s.memsz
  pub bytes : length s.bytes ≤ s.memsz
  pub prot : s.prot ≤ 7
  pub low : 4096 ≤ s.vaddr
  pub high : s.vaddr + s.memsz ≤ 0x7F7F0000

-- what each plan keeps: there is a segment, each is valid, no two overlap, and all touch at most 120,000 pages
pub record IsValidPlan (plan : Plan) : Type 0 where
  pub some : 0 < length plan.segments
  pub each : All IsValidSegment plan.segments
  pub apart : AllPairs (λ s t. overlaps (segment_span s) (segment_span t) ≡ false) plan.segments
  pub pages : pages_touched (map segment_span plan.segments) ≤ 120000
