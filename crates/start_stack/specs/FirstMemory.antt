-- The first memory of a process.
-- Source: System V gABI, "Program Loading", for segments and their pages. Where the stack, the page of the signal trampolines and the break lie is this project's own.
use Rattle.std.specs.Prelude.{ℕ, zero, suc, ◌+◌, ◌-◌, ◌*◌, ◌/◌, Bool, ◌&&◌, List, [], ◌∷◌, nat_le, nat_lt, max, bit_or, if◌then◌else◌}
use Rattle.std.specs.List.{fold}
use Rattle.std.specs.FinMap as map
use Rattle.elf_image.specs.declared.load_plan.Segment.{Segment}
use Rattle.guest_space.specs.Memory.{Memory}
use Rattle.guest_space.specs.Bytes.{copied_out}
use Rattle.guest_space.specs.Mapping.{with_zeros, with_protection}
use Rattle.start_stack.specs.Stack.{word_bytes}

-- the number of the first page that a segment touches
abbrev pub first_page : Segment → ℕ
first_page s = s.vaddr / 4096

-- the number of the page behind the last one that a segment touches
abbrev pub end_page : Segment → ℕ
end_page s = (s.vaddr + s.memsz + 4095) / 4096

-- how many pages a segment touches
abbrev pub page_count : Segment → ℕ
page_count s = end_page s - first_page s

-- the number of the page behind the highest segment
abbrev pub top_page : List Segment → ℕ
top_page segments = fold (λ top s. max top (end_page s)) 0 segments

-- whether a segment touches the page
abbrev pub touches : Segment → ℕ → Bool
touches s page = nat_le (first_page s) page && nat_lt page (end_page s)

-- the protections of the segments that touch the page, united with a first one
abbrev pub united : ℕ → List Segment → ℕ → ℕ
united protection segments page =
    fold (λ all s. if touches s page then bit_or all s.prot else all) protection segments

-- the union of the protections of the segments that touch the page
abbrev pub page_protection : List Segment → ℕ → ℕ
page_protection segments page = united 0 segments page

-- memory with pages of zeros in a range, which may be read and written
abbrev pub with_pages : Memory → ℕ → ℕ → Memory
with_pages memory first count = record memory { pages = with_zeros memory.pages first count 3 }

-- memory with another protection for the pages of a range
abbrev pub with_protected : Memory → ℕ → ℕ → ℕ → Memory
with_protected memory first count protection =
    record memory { pages = with_protection memory.pages first count protection }

-- memory with zeros in each page that the segments touch
abbrev pub with_segment_pages : Memory → List Segment → Memory
with_segment_pages memory segments = fold (λ m s. with_pages m (first_page s) (page_count s)) memory segments

-- memory with the bytes that the segments have from the file
abbrev pub with_segment_bytes : Memory → List Segment → Memory
with_segment_bytes memory segments = fold (λ m s. copied_out m s.vaddr s.bytes) memory segments

-- memory with the protection that the function gives for each page below `count` that is there
unfoldable pub with_page_protections : Memory → (ℕ → ℕ) → ℕ → Memory
with_page_protections memory protection zero = memory
with_page_protections memory protection (suc page) =
    with_protected (with_page_protections memory protection page) page 1 (protection page)

-- memory with the segments: their pages, the bytes from the file in them, and for each page the union of protections
abbrev pub with_segments : Memory → List Segment → Memory
with_segments memory segments =
    with_page_protections (with_segment_bytes (with_segment_pages memory segments) segments) (page_protection segments) (top_page segments)

-- memory with the stack, 8 MiB from 0x7F7F0000 to 0x7FFF0000, and its text from the stack pointer on
abbrev pub with_stack : Memory → ℕ → List ℕ → Memory
with_stack memory stack_pointer bytes = copied_out (with_pages memory 0x7F7F0 2048) stack_pointer bytes

-- memory with the page of the signal trampolines, which may be read and executed:
-- li $v0, 4119 (sigreturn) and syscall at its start, li $v0, 4193 (rt_sigreturn) and syscall sixteen bytes behind
abbrev pub with_trampolines : Memory → Memory
with_trampolines memory =
    let written = copied_out (with_pages memory 0x7FFF4 1) 0x7FFF4000 (word_bytes (0x24021017 ∷ 0x0000000C ∷ [])) in
    with_protected (copied_out written 0x7FFF4010 (word_bytes (0x24021061 ∷ 0x0000000C ∷ []))) 0x7FFF4 1 5

-- the break: the end of the highest segment, rounded up to a page
abbrev pub first_break : List Segment → ℕ
first_break segments = top_page segments * 4096

-- memory with the break and its start at an address
abbrev pub with_break : Memory → ℕ → Memory
with_break memory at = record memory { program_break = at; break_start = at }

-- memory without any page
abbrev pub no_memory : Memory
no_memory = record { pages = map.empty; program_break = 0; break_start = 0 }

-- the first memory of a process whose stack holds these bytes
abbrev pub first_memory : List Segment → ℕ → List ℕ → Memory
first_memory segments stack_pointer bytes =
    with_break (with_trampolines (with_stack (with_segments no_memory segments) stack_pointer bytes)) (first_break segments)
