-- Worked rows on mappings and the break.
use Rattle.std.specs.Prelude.{◌≡◌, ℕ, [], ◌∷◌, Some, None, refl}
use Rattle.std.specs.FinMap.{get, insert, len}
use Rattle.guest_space.specs.Break.{with_break}
use Rattle.guest_space.specs.Bytes.{copied_out, with_bytes}
use Rattle.guest_space.specs.Mapping.{with_zeros, absent_count, mapped_run, with_protection}
use Rattle.guest_space.specs.Memory.{MappedPage, Memory}
use Rattle.guest_space.specs.Remapping.{without}
use Rattle.kernel_core.specs.FileContent.{no_content, bytes_at as content_bytes_at}
use Rattle.kernel_core.specs.Nodes.{Nodes}
use Rattle.kernel_core.specs.declared.error.Errno.{Errno}
use Rattle.kernel_core.specs.declared.error.Errno.TheVariants.{EACCES, EBADF, EFAULT, EINVAL, ENODEV, ENOMEM, EPERM}
use Rattle.kernel_model.specs.State.{Kernel}
use Rattle.kernel_model.specs.Whole.{with_files}
use Rattle.mips_exec.specs.Processor.{Processor}
use Rattle.o32_model.proofs.rows.Small.{at_first, with_node_at, large_file, some_directory, words, guest, leaves}
use Rattle.o32_model.specs.Mappings.{brk, mmap, munmap, mprotect, msync, madvise, mremap}
use Rattle.o32_model.specs.Ranges.{greatest_place, greatest_among, with_pages_of, resized}
use Rattle.o32_model.specs.Step.{O32Step}
use Rattle.o32_model.specs.Table.{o32_call}
use Rattle.o32_model.specs.declared.call_words.CallWords.{CallWords}
use Rattle.o32_model.specs.declared.outcome.Outcome.{Outcome}
use Rattle.o32_model.specs.declared.outcome.Outcome.TheVariants.{Value, Error}

-- with a descriptor and an offset on the stack
abbrev words_of_map : ℕ → ℕ → ℕ → ℕ → ℕ → ℕ → ℕ → CallWords
words_of_map nr address length protection flags fd offset = record {
  nr = nr;
  reg = address ∷ length ∷ protection ∷ flags ∷ [];
  stack = Some fd ∷ Some offset ∷ None ∷ None ∷ [];
}

module _ (whole : Kernel) (nodes : Nodes) (processor : Processor) (memory : Memory) where
  -- a call in the first state, and with node 5 at descriptor 3
  abbrev at_start : CallWords → O32Step
  at_start call = o32_call (with_files whole (at_first nodes)) (guest call processor memory) []

  abbrev with_node : CallWords → O32Step
  with_node call = o32_call (with_files whole (with_node_at nodes 7)) (guest call processor memory) []

  -- what is left: memory, and the outcome
  abbrev changes : Memory → Outcome → O32Step
  changes after outcome = leaves whole (at_first nodes) processor after [] outcome

  abbrev gives : ℕ → O32Step
  gives number = changes memory (Value number)

  abbrev refuses : Errno → O32Step
  refuses error = changes memory (Error error)

  -- brk

  break_grows : memory.program_break ≡ 0x410000 → memory.break_start ≡ 0x410000 → get memory.pages 0x410 ≡ None → len memory.pages ≡ 5
      → at_start (words 4045 0x410123 0 0 0)
      ≡ changes (record memory { pages = with_zeros (without memory.pages 0x411 0) 0x410 1 3; program_break = 0x410123 }) (Value 0x410123)
  unfolding brk with_break absent_count
  break_grows at start free count = simp (at, start, free, count) refl

  break_asked : memory.program_break ≡ 0x410000 → memory.break_start ≡ 0x410000 → at_start (words 4045 0 0 0 0) ≡ gives 0x410000
  unfolding brk with_break
  break_asked at start = simp (at, start) refl

  break_below_its_start : memory.program_break ≡ 0x410000 → memory.break_start ≡ 0x410000 → at_start (words 4045 0x40FFFF 0 0 0) ≡ gives 0x410000
  unfolding brk with_break
  break_below_its_start at start = simp (at, start) refl

  -- pages that the break no longer reaches are taken away
  break_shrinks : memory.program_break ≡ 0x412000 → memory.break_start ≡ 0x410000 → at_start (words 4045 0x410001 0 0 0) ≡ changes (record memory { pages = without memory.pages 0x411 1; program_break = 0x410001 }) (Value 0x410001)
  unfolding brk with_break with_zeros
  break_shrinks at start = simp (at, start) refl

  -- within its last page it moves also where the limit is reached
  break_in_its_page : memory.program_break ≡ 0x410123 → memory.break_start ≡ 0x410000 → len memory.pages ≡ 131_072 → at_start (words 4045 0x410FFF 0 0 0) ≡ changes (record memory { pages = without memory.pages 0x411 0; program_break = 0x410FFF }) (Value 0x410FFF)
  unfolding brk with_break with_zeros
  break_in_its_page at start count = simp (at, start, count) refl

  break_at_its_end : memory.program_break ≡ 0x6FFF_F000 → memory.break_start ≡ 0x6FFF_F000 → get memory.pages 0x6FFFF ≡ None → len memory.pages ≡ 5 → at_start (words 4045 0x7000_0000 0 0 0) ≡ changes (record memory { pages = with_zeros (without memory.pages 0x70000 0) 0x6FFFF 1 3; program_break = 0x7000_0000 }) (Value 0x7000_0000)
  unfolding brk with_break absent_count
  break_at_its_end at start free count = simp (at, start, free, count) refl

  break_above_its_end : memory.program_break ≡ 0x410000 → memory.break_start ≡ 0x410000 → at_start (words 4045 0x7000_0001 0 0 0) ≡ gives 0x410000
  unfolding brk with_break
  break_above_its_end at start = simp (at, start) refl

  break_onto_mapped : (page : MappedPage) → memory.program_break ≡ 0x410000 → memory.break_start ≡ 0x410000 → get memory.pages 0x410 ≡ Some page
      → at_start (words 4045 0x410001 0 0 0) ≡ gives 0x410000
  unfolding brk with_break absent_count
  break_onto_mapped page at start taken = simp (at, start, taken) refl

  break_past_the_limit : memory.program_break ≡ 0x410000 → memory.break_start ≡ 0x410000 → get memory.pages 0x410 ≡ None → len memory.pages ≡ 131_072
      → at_start (words 4045 0x410001 0 0 0) ≡ gives 0x410000
  unfolding brk with_break absent_count
  break_past_the_limit at start free count = simp (at, start, free, count) refl

  -- the greatest place: of the highest pages that are tried one is taken
  greatest : (page : MappedPage) → get memory.pages 0x10002 ≡ Some page → get memory.pages 0x10001 ≡ None → get memory.pages 0x10000 ≡ None
      → greatest_among memory.pages 2 2 ≡ Some 0x10000
  unfolding greatest_among absent_count
  greatest page taken free below = simp (taken, free, below) refl

  none_free : (page : MappedPage) → get memory.pages 0x10001 ≡ Some page → get memory.pages 0x10000 ≡ None → greatest_among memory.pages 2 1 ≡ None
  unfolding greatest_among absent_count
  none_free page taken free = simp (taken, free) refl

  -- mmap2 of no file: private, of a length that is rounded up

  anywhere : greatest_place memory.pages 2 ≡ Some 0x6fffe → get memory.pages 0x6ffff ≡ None → get memory.pages 0x6fffe ≡ None → len memory.pages ≡ 5
      → at_start (words_of_map 4210 0 4097 3 0x802 0 0)
      ≡ changes (record memory { pages = with_zeros memory.pages 0x6fffe 2 3 }) (Value 0x6fffe000)
  unfolding mmap absent_count copied_out with_bytes
  anywhere place free below count = simp (place, free, below, count) refl

  -- a hint is rounded up, and of the protection three bits count; mmap is as mmap2
  at_hint : get memory.pages 0x20 ≡ None → len memory.pages ≡ 5
      → at_start (words_of_map 4090 0x1f001 4096 13 0x801 0xFFFF_FFFF 0)
      ≡ changes (record memory { pages = with_zeros memory.pages 0x20 1 5 }) (Value 0x20000)
  unfolding mmap absent_count copied_out with_bytes
  at_hint free count = simp (free, count) refl

  hint_taken : (page : MappedPage) → get memory.pages 0x20 ≡ Some page → greatest_place memory.pages 1 ≡ Some 0x6ffff → get memory.pages 0x6ffff ≡ None → len memory.pages ≡ 5
      → at_start (words_of_map 4210 0x20000 4096 3 0x802 0 0)
      ≡ changes (record memory { pages = with_zeros memory.pages 0x6ffff 1 3 }) (Value 0x6ffff000)
  unfolding mmap absent_count copied_out with_bytes
  hint_taken page taken place free count = simp (taken, place, free, count) refl

  hint_below : greatest_place memory.pages 1 ≡ Some 0x6ffff → get memory.pages 0x6ffff ≡ None → len memory.pages ≡ 5
      → at_start (words_of_map 4210 0xf000 4096 3 0x802 0 0)
      ≡ changes (record memory { pages = with_zeros memory.pages 0x6ffff 1 3 }) (Value 0x6ffff000)
  unfolding mmap absent_count copied_out with_bytes
  hint_below place free count = simp (place, free, count) refl

  hint_at_the_end : greatest_place memory.pages 1 ≡ Some 0x6ffff → get memory.pages 0x6ffff ≡ None → len memory.pages ≡ 5
      → at_start (words_of_map 4210 0xFFFF_F001 4096 3 0x802 0 0)
      ≡ changes (record memory { pages = with_zeros memory.pages 0x6ffff 1 3 }) (Value 0x6ffff000)
  unfolding mmap absent_count copied_out with_bytes
  hint_at_the_end place free count = simp (place, free, count) refl

  -- its end is 0x7F7F0000, and a page more
  hint_up_to_the_end : get memory.pages 0x7F7EF ≡ None → len memory.pages ≡ 5 → at_start (words_of_map 4210 0x7F7E_F000 4096 3 0x802 0 0) ≡ changes (record memory { pages = with_zeros memory.pages 0x7F7EF 1 3 }) (Value 0x7F7E_F000)
  unfolding mmap absent_count copied_out with_bytes
  hint_up_to_the_end free count = simp (free, count) refl

  hint_past_the_end : greatest_place memory.pages 2 ≡ Some 0x6fffe → get memory.pages 0x6ffff ≡ None → get memory.pages 0x6fffe ≡ None → len memory.pages ≡ 5 → at_start (words_of_map 4210 0x7F7E_F000 8192 3 0x802 0 0) ≡ changes (record memory { pages = with_zeros memory.pages 0x6fffe 2 3 }) (Value 0x6fffe000)
  unfolding mmap absent_count copied_out with_bytes
  hint_past_the_end place free below count = simp (place, free, below, count) refl

  -- a fixed place takes what stood there
  at_fixed : (page : MappedPage) → get memory.pages 0x20 ≡ Some page → len memory.pages ≡ 131_072
      → at_start (words_of_map 4210 0x20000 4096 3 0x812 0 0)
      ≡ changes (record memory { pages = with_zeros memory.pages 0x20 1 3 }) (Value 0x20000)
  unfolding mmap absent_count copied_out with_bytes
  at_fixed page taken count = simp (taken, count) refl

  length_of_none : at_start (words_of_map 4210 0 0 3 0x802 0 0) ≡ refuses EINVAL
  unfolding mmap
  length_of_none = refl

  other_type : at_start (words_of_map 4210 0 4096 3 0x803 0 0) ≡ refuses EINVAL
  unfolding mmap
  other_type = refl

  fixed_off_a_page : at_start (words_of_map 4210 0x20001 4096 3 0x812 0 0) ≡ refuses EINVAL
  unfolding mmap
  fixed_off_a_page = refl

  offset_off_a_page : at_start (words_of_map 4090 0 4096 3 0x802 0 1) ≡ refuses EINVAL
  unfolding mmap
  offset_off_a_page = refl

  -- before all else, and for a mapping of no file too
  no_stack : at_start (words 4210 0 0 3 0x802) ≡ refuses EFAULT
  no_stack = refl

  no_offset : at_start (record { nr = 4090; reg = 0 ∷ 4096 ∷ 3 ∷ 0x802 ∷ []; stack = Some 0 ∷ None ∷ None ∷ None ∷ [] }) ≡ refuses EFAULT
  no_offset = refl

  fixed_beyond : at_start (words_of_map 4210 0x7FFF_7000 4097 3 0x812 0 0) ≡ refuses ENOMEM
  unfolding mmap
  fixed_beyond = refl

  fixed_at_zero : at_start (words_of_map 4210 0 4096 3 0x812 0 0) ≡ refuses EPERM
  unfolding mmap
  fixed_at_zero = refl

  -- longer than all places
  no_place : at_start (words_of_map 4210 0 0x6000_0001 3 0x802 0 0) ≡ refuses ENOMEM
  unfolding mmap greatest_place greatest_among
  no_place = refl

  -- as long as no free run, though the limit is not passed
  no_free_run : greatest_place memory.pages 80_000 ≡ None → at_start (words_of_map 4210 0 327_680_000 3 0x802 0 0) ≡ refuses ENOMEM
  unfolding mmap
  no_free_run place = simp place refl

  past_the_limit : greatest_place memory.pages 1 ≡ Some 0x6ffff → get memory.pages 0x6ffff ≡ None → len memory.pages ≡ 131_072 → at_start (words_of_map 4210 0 4096 3 0x802 0 0) ≡ refuses ENOMEM
  unfolding mmap absent_count
  past_the_limit place free count = simp (place, free, count) refl

  -- mmap2 of a file

  -- the position stays: the second page of a file of 2^32 + 258 bytes, and 258 bytes from 2^32 on
  module _ (kept : get nodes 5 ≡ Some large_file) where
    of_file : greatest_place memory.pages 1 ≡ Some 0x6ffff → get memory.pages 0x6ffff ≡ None → len memory.pages ≡ 5
        → with_node (words_of_map 4210 0 1 1 2 3 0x100000)
        ≡ leaves whole (with_node_at nodes 7) processor
        (copied_out (record memory { pages = with_zeros memory.pages 0x6ffff 1 1 }) 0x6ffff000 (content_bytes_at no_content.blocks 0x1_0000_0000 258))
        [] (Value 0x6ffff000)
    unfolding mmap absent_count large_file
    of_file place free count = simp (kept, place, free, count) refl

    -- mmap counts its offset in bytes
    of_file_in_bytes : get memory.pages 0x20 ≡ None → len memory.pages ≡ 5 → with_node (words_of_map 4090 0x20000 1 1 2 3 4096) ≡ leaves whole (with_node_at nodes 7) processor (copied_out (record memory { pages = with_zeros memory.pages 0x20 1 1 }) 0x20000 (content_bytes_at no_content.blocks 4096 4096)) [] (Value 0x20000)
    unfolding mmap absent_count large_file
    of_file_in_bytes free count = simp (kept, free, count) refl

    -- onto a page that is mapped
    of_file_at_fixed : (page : MappedPage) → get memory.pages 0x20 ≡ Some page → len memory.pages ≡ 131_072 → with_node (words_of_map 4210 0x20000 1 1 0x12 3 0x100000) ≡ leaves whole (with_node_at nodes 7) processor (copied_out (record memory { pages = with_zeros memory.pages 0x20 1 1 }) 0x20000 (content_bytes_at no_content.blocks 0x1_0000_0000 258)) [] (Value 0x20000)
    unfolding mmap absent_count large_file
    of_file_at_fixed page taken count = simp (kept, taken, count) refl

    -- past the file's end all is zeros
    past_the_end : get memory.pages 0x20 ≡ None → len memory.pages ≡ 5
        → with_node (words_of_map 4210 0x20000 1 1 2 3 0x100001)
        ≡ leaves whole (with_node_at nodes 7) processor (record memory { pages = with_zeros memory.pages 0x20 1 1 }) [] (Value 0x20000)
    unfolding mmap absent_count large_file content_bytes_at copied_out with_bytes
    past_the_end free count = simp (kept, free, count) refl

    shared_file : with_node (words_of_map 4210 0 4096 3 1 3 0) ≡ leaves whole (with_node_at nodes 7) processor memory [] (Error ENODEV)
    unfolding mmap large_file
    shared_file = simp kept refl

    -- what is wrong with the file comes before the place
    before_the_place : with_node (words_of_map 4210 0 4096 3 0x11 3 0) ≡ leaves whole (with_node_at nodes 7) processor memory [] (Error ENODEV)
    unfolding mmap large_file
    before_the_place = simp kept refl

  of_directory : get nodes 5 ≡ Some some_directory → with_node (words_of_map 4210 0 4096 3 2 3 0) ≡ leaves whole (with_node_at nodes 7) processor memory [] (Error ENODEV)
  unfolding mmap some_directory
  of_directory kept = simp kept refl

  of_stream : at_start (words_of_map 4210 0 4096 3 2 0 0) ≡ refuses ENODEV
  unfolding mmap
  of_stream = refl

  not_for_reading : at_start (words_of_map 4210 0 4096 3 2 1 0) ≡ refuses EACCES
  unfolding mmap
  not_for_reading = refl

  -- before ENODEV of a shared one
  shared_not_for_reading : at_start (words_of_map 4210 0 4096 3 1 1 0) ≡ refuses EACCES
  unfolding mmap
  shared_not_for_reading = refl

  of_closed : at_start (words_of_map 4210 0 4096 3 2 3 0) ≡ refuses EBADF
  unfolding mmap
  of_closed = refl

  -- munmap

  unmapped : at_start (words 4091 0x20000 4097 0 0) ≡ changes (record memory { pages = without memory.pages 0x20 2 }) (Value 0)
  unfolding munmap
  unmapped = refl

  unmapped_to_the_end : at_start (words 4091 0x7FFF_7000 4096 0 0) ≡ changes (record memory { pages = without memory.pages 0x7FFF7 1 }) (Value 0)
  unfolding munmap
  unmapped_to_the_end = refl

  unmap_off_a_page : at_start (words 4091 0x20001 4096 0 0) ≡ refuses EINVAL
  unfolding munmap
  unmap_off_a_page = refl

  unmap_of_none : at_start (words 4091 0x20000 0 0 0) ≡ refuses EINVAL
  unfolding munmap
  unmap_of_none = refl

  unmap_beyond : at_start (words 4091 0x7FFF_7000 4097 0 0) ≡ refuses EINVAL
  unfolding munmap
  unmap_beyond = refl

  -- mprotect

  module _ (page : MappedPage) (first : get memory.pages 0x20 ≡ Some page) where
    protected : at_start (words 4125 0x20000 1 13 0) ≡ changes (record memory { pages = with_protection memory.pages 0x20 1 5 }) (Value 0)
    unfolding mprotect mapped_run
    protected = simp first refl

    -- the first page is changed
    protected_up_to_absent : get memory.pages 0x21 ≡ None
        → at_start (words 4125 0x20000 8192 1 0) ≡ changes (record memory { pages = with_protection memory.pages 0x20 1 1 }) (Error ENOMEM)
    unfolding mprotect mapped_run
    protected_up_to_absent absent = simp (first, absent) refl

    -- msync and madvise

    synced : at_start (words 4144 0x20000 4096 6 0) ≡ gives 0
    unfolding msync mapped_run
    synced = simp first refl

    synced_up_to_absent : get memory.pages 0x21 ≡ None → at_start (words 4144 0x20000 8192 1 0) ≡ refuses ENOMEM
    unfolding msync mapped_run
    synced_up_to_absent absent = simp (first, absent) refl

    -- mremap

    same_size : at_start (words 4167 0x20000 4096 1 0) ≡ changes (record memory { pages = without memory.pages 0x21 0 }) (Value 0x20000)
    unfolding mremap resized mapped_run
    same_size = simp first refl

    cut : get memory.pages 0x21 ≡ Some page → at_start (words 4167 0x20000 8192 4096 0)
        ≡ changes (record memory { pages = without memory.pages 0x21 1 }) (Value 0x20000)
    unfolding mremap resized mapped_run
    cut second = simp (first, second) refl

    -- the page that follows is free, also where it may move
    grown : get memory.pages 0x21 ≡ None → len memory.pages ≡ 131_071 → at_start (words 4167 0x20000 4096 4097 1)
        ≡ changes (record memory { pages = with_zeros memory.pages 0x21 1 page.protection }) (Value 0x20000)
    unfolding mremap resized mapped_run absent_count
    grown free count = simp (first, free, count) refl

    -- the page that follows is taken
    moved : get memory.pages 0x21 ≡ Some page → len memory.pages ≡ 5 → greatest_place memory.pages 2 ≡ Some 0x6fffe
        → at_start (words 4167 0x20000 4096 4097 1)
        ≡ changes (record memory { pages = with_zeros (insert (without memory.pages 0x20 1) 0x6fffe page) 0x6ffff 1 page.protection }) (Value 0x6fffe000)
    unfolding mremap resized mapped_run absent_count with_pages_of
    moved next count place = simp (first, next, count, place) refl

    may_not_move : get memory.pages 0x21 ≡ Some page → len memory.pages ≡ 5 → at_start (words 4167 0x20000 4096 4097 0) ≡ refuses ENOMEM
    unfolding mremap resized mapped_run absent_count
    may_not_move next count = simp (first, next, count) refl

    grown_past_the_limit : len memory.pages ≡ 131_072 → at_start (words 4167 0x20000 4096 4097 1) ≡ refuses ENOMEM
    unfolding mremap resized mapped_run
    grown_past_the_limit count = simp (first, count) refl

  -- 80,000 pages, for which four pages between 0x10000 and 0x70000 can leave no run; behind the last page where a range may grow
  nowhere : (page : MappedPage) → get memory.pages 0x7F7EF ≡ Some page → len memory.pages ≡ 5 → greatest_place memory.pages 80_000 ≡ None
      → at_start (words 4167 0x7F7E_F000 4096 327_680_000 1) ≡ refuses ENOMEM
  unfolding mremap resized mapped_run
  nowhere page last count place = simp (last, count, place) refl

  -- up to 0x7F7F0000 a range may grow, and no further
  grown_to_the_end : (page : MappedPage) → get memory.pages 0x7F7EE ≡ Some page → get memory.pages 0x7F7EF ≡ None → len memory.pages ≡ 5 → at_start (words 4167 0x7F7E_E000 4096 8192 0) ≡ changes (record memory { pages = with_zeros memory.pages 0x7F7EF 1 page.protection }) (Value 0x7F7E_E000)
  unfolding mremap resized mapped_run absent_count
  grown_to_the_end page first free count = simp (first, free, count) refl

  not_past_the_end : (page : MappedPage) → get memory.pages 0x7F7EF ≡ Some page → len memory.pages ≡ 5 → at_start (words 4167 0x7F7E_F000 4096 8192 0) ≡ refuses ENOMEM
  unfolding mremap resized mapped_run
  not_past_the_end page first count = simp (first, count) refl

  -- mprotect of no page, of an absent one, and past user space, where no page is
  protected_of_none : at_start (words 4125 0x20000 0 3 0) ≡ gives 0
  unfolding mprotect mapped_run with_protection
  protected_of_none = refl

  protected_absent : get memory.pages 0x20 ≡ None → at_start (words 4125 0x20000 4096 3 0) ≡ refuses ENOMEM
  unfolding mprotect mapped_run with_protection
  protected_absent absent = simp absent refl

  protected_beyond : get memory.pages 0x7FFF8 ≡ None → at_start (words 4125 0x7FFF_8000 4096 3 0) ≡ refuses ENOMEM
  unfolding mprotect mapped_run with_protection
  protected_beyond absent = simp absent refl

  protect_off_a_page : at_start (words 4125 0x20001 4096 3 0) ≡ refuses EINVAL
  unfolding mprotect
  protect_off_a_page = refl

  sync_off_a_page : at_start (words 4144 0x20001 4096 4 0) ≡ refuses EINVAL
  unfolding msync
  sync_off_a_page = refl

  other_sync_flags : at_start (words 4144 0x20000 4096 8 0) ≡ refuses EINVAL
  unfolding msync
  other_sync_flags = refl

  both_syncs : at_start (words 4144 0x20000 4096 5 0) ≡ refuses EINVAL
  unfolding msync
  both_syncs = refl

  advised : at_start (words 4218 0x20000 4096 3 0) ≡ gives 0
  unfolding madvise
  advised = refl

  advise_off_a_page : at_start (words 4218 0x20001 4096 3 0) ≡ refuses EINVAL
  unfolding madvise
  advise_off_a_page = refl

  other_advice : at_start (words 4218 0x20000 4096 4 0) ≡ refuses EINVAL
  unfolding madvise
  other_advice = refl

  remap_off_a_page : at_start (words 4167 0x20001 4096 4096 0) ≡ refuses EINVAL
  unfolding mremap
  remap_off_a_page = refl

  remap_of_none : at_start (words 4167 0x20000 0 4096 0) ≡ refuses EINVAL
  unfolding mremap
  remap_of_none = refl

  remap_to_none : at_start (words 4167 0x20000 4096 0 0) ≡ refuses EINVAL
  unfolding mremap
  remap_to_none = refl

  other_remap_flags : at_start (words 4167 0x20000 4096 4096 2) ≡ refuses EINVAL
  unfolding mremap
  other_remap_flags = refl

  remap_of_absent : get memory.pages 0x20 ≡ None → at_start (words 4167 0x20000 4096 4096 0) ≡ refuses EFAULT
  unfolding mremap mapped_run
  remap_of_absent absent = simp absent refl

  -- before the limit
  remap_of_absent_past_the_limit : get memory.pages 0x20 ≡ None → len memory.pages ≡ 131_072 → at_start (words 4167 0x20000 4096 8192 1) ≡ refuses EFAULT
  unfolding mremap mapped_run
  remap_of_absent_past_the_limit absent count = simp absent refl
