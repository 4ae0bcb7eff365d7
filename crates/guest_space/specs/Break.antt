-- The program break as a call moves it (brk(2)). The break ends at 0x70000000 at most (this project's own).
use Rattle.std.specs.Prelude.{ℕ, ◌+◌, ◌-◌, ◌/◌, Bool, ◌&&◌, ◌||◌, ◌==◌, nat_le, if◌then◌else◌}
use Rattle.std.specs.FinMap.{len}
use Rattle.guest_space.specs.Memory.{Pages, Memory}
use Rattle.guest_space.specs.Mapping.{with_zeros, absent_count, page_limit}
use Rattle.guest_space.specs.Remapping.{without}

abbrev pub break_end : ℕ
break_end = 0x7000_0000

-- the first page that the break has not reached: the break rounded up to a page
abbrev pub pages_up_to : ℕ → ℕ
pages_up_to address = (address + 4095) / 4096

-- whether none of the pages to be added is mapped already and, where there are any, the limit isn't passed
abbrev pub may_add : Pages → ℕ → ℕ → Bool
may_add pages first count = (count == 0) || ((absent_count pages first count == count) && nat_le (len pages + count) page_limit)

-- whether the break may become the wish
abbrev pub may_break : Memory → ℕ → Bool
may_break memory wish =
    nat_le memory.break_start wish && nat_le wish break_end
    && may_add memory.pages (pages_up_to memory.program_break) (pages_up_to wish - pages_up_to memory.program_break)

-- The pages between the two breaks are mapped as zeros to read and write, or are taken away.
abbrev pub pages_between : Pages → ℕ → ℕ → Pages
pages_between pages from to =
    with_zeros (without pages (pages_up_to to) (pages_up_to from - pages_up_to to)) (pages_up_to from) (pages_up_to to - pages_up_to from) 3

-- the memory after a wish for a break, which changes nothing where the break may not become it
unfoldable pub with_break : Memory → ℕ → Memory
with_break memory wish =
    if may_break memory wish then record memory { pages = pages_between memory.pages memory.program_break wish; program_break = wish } else memory
