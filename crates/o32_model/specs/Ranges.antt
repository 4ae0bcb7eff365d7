-- Ranges of pages that the calls on mappings act on: how many pages a length has, the place for a mapping, and a range that gets another
-- size (mmap(2), mremap(2)). A range of pages is its first number and a count.
use Rattle.std.specs.Prelude.{ℕ, zero, suc, ◌+◌, ◌-◌, ◌/◌, ◌%◌, ◌==◌, Bool, not, ◌&&◌, Option, Some, None, nat_le, nat_lt, if◌then◌else◌}
use Rattle.std.specs.FinMap.{get, insert, len}
use Rattle.guest_space.specs.Break.{pages_up_to}
use Rattle.guest_space.specs.Mapping.{with_zeros, absent_count, mapped_run, page_limit}
use Rattle.guest_space.specs.Memory.{MappedPage, Pages}
use Rattle.guest_space.specs.Places.{places_begin, places_end}
use Rattle.guest_space.specs.Remapping.{without, protection_of, growth_end}
use Rattle.kernel_core.specs.declared.error.Errno.TheVariants.{ENOMEM}
use Rattle.kernel_model.specs.Came.{Did, done, refused_if, with_some}

-- Addresses and lengths

abbrev pub page_size : ℕ
page_size = 4096

abbrev pub is_aligned : ℕ → Bool
is_aligned address = address % page_size == 0

-- the page in which an address lies
abbrev pub page_of : ℕ → ℕ
page_of address = address / page_size

-- how many pages a length has, rounded up as a whole number
abbrev pub page_count : ℕ → ℕ
page_count length = pages_up_to length

-- how many pages the program's half of memory has (TASK_SIZE32 of Linux arch/mips)
abbrev pub user_pages : ℕ
user_pages = 524280

-- whether a page of the range lies past user space
abbrev pub is_beyond : ℕ → ℕ → Bool
is_beyond first count = nat_lt user_pages (first + count)

abbrev pub is_free : Pages → ℕ → ℕ → Bool
is_free pages first count = absent_count pages first count == count

abbrev pub is_mapped : Pages → ℕ → ℕ → Bool
is_mapped pages first count = mapped_run pages first count == count

-- how many pages are mapped once those of a range are
abbrev pub count_with : Pages → ℕ → ℕ → ℕ
count_with pages first count = len pages + absent_count pages first count

-- pages of zeros at a range, whatever stood there; none where more pages than the limit would be mapped then
abbrev pub with_new_pages : Pages → ℕ → ℕ → ℕ → Option Pages
with_new_pages pages first count protection =
    if nat_le (count_with pages first count) page_limit then Some (with_zeros pages first count protection) else None

-- Places

-- A hint is an address. Rounded up to a page it is where a mapping goes, if the pages there are free and lie from 0x10000 up to 0x7F7F0000
-- (this project's own).

abbrev pub hints_begin : ℕ
hints_begin = 0x10

abbrev pub takes_hint : Pages → ℕ → ℕ → Bool
takes_hint pages first count = nat_le hints_begin first && nat_le (first + count) growth_end && is_free pages first count

-- The greatest first page of a free run of so many pages, of the first `tried` that lie from the lowest place on. With all of them tried it
-- is the greatest place of `guest_space`, which a law says.

unfoldable pub greatest_among : Pages → ℕ → ℕ → Option ℕ
greatest_among pages count zero = None
greatest_among pages count (suc tried) =
    if is_free pages (places_begin + tried) count then Some (places_begin + tried) else greatest_among pages count tried

unfoldable pub greatest_place : Pages → ℕ → Option ℕ
greatest_place pages count = greatest_among pages count (places_end + 1 - (places_begin + count))

-- Another size

-- whether the pages that follow a range of `old` pages are free, and lie below 0x7F7F0000, where a range may grow (this project's own)
abbrev pub may_grow : Pages → ℕ → ℕ → ℕ → Bool
may_grow pages first old new = nat_le (first + new) growth_end && is_free pages (first + old) (new - old)

-- The pages of a range at other numbers, each with its protection and its bytes: the range is taken away, and then each of its pages is put
-- where it goes.

abbrev pub with_page : Pages → ℕ → Option MappedPage → Pages
with_page pages number None = pages
with_page pages number (Some page) = insert pages number page

unfoldable pub with_pages_of : Pages → Pages → ℕ → ℕ → ℕ → Pages
with_pages_of pages old first to zero = pages
with_pages_of pages old first to (suc count) = with_page (with_pages_of pages old first to count) (to + count) (get old (first + count))

abbrev pub moved : Pages → ℕ → ℕ → ℕ → Pages
moved pages first to count = with_pages_of (without pages first count) pages first to count

-- pages of zeros behind a range, with the protection of its last page
abbrev pub with_more_pages : Pages → ℕ → ℕ → ℕ → ℕ → Pages
with_more_pages pages first old new protection = with_zeros pages (first + old) (new - old) protection

abbrev pub last_protection : Pages → ℕ → ℕ → ℕ
last_protection pages first old = protection_of (get pages (first + old - 1))

-- A range of `old` pages that gets the size of `new` pages, and its first page then. The limit is looked at first, then whether it may grow
-- where it stands, and a place while the old pages stand (an order of this project's own).

abbrev pub passes_limit : Pages → ℕ → ℕ → Bool
passes_limit pages old new = nat_lt page_limit (len pages + (new - old))

abbrev pub cut : Pages → ℕ → ℕ → ℕ → Did Pages ℕ
cut pages first old new = done (without pages (first + new) (old - new)) first

abbrev pub grown : Pages → ℕ → ℕ → ℕ → Did Pages ℕ
grown pages first old new = done (with_more_pages pages first old new (last_protection pages first old)) first

abbrev pub moved_and_grown : Pages → ℕ → ℕ → ℕ → Did Pages ℕ
moved_and_grown pages first old new =
    with_some pages ENOMEM (greatest_place pages new) (λ to.
    done (with_more_pages (moved pages first to old) to old new (last_protection pages first old)) to)

abbrev pub enlarged : Pages → ℕ → ℕ → ℕ → Bool → Did Pages ℕ
enlarged pages first old new may_move =
    if may_grow pages first old new then grown pages first old new
    else refused_if (not may_move) ENOMEM pages (moved_and_grown pages first old new)

unfoldable pub resized : Pages → ℕ → ℕ → ℕ → Bool → Did Pages ℕ
resized pages first old new may_move =
    if nat_le new old then cut pages first old new
    else refused_if (passes_limit pages old new) ENOMEM pages (enlarged pages first old new may_move)
