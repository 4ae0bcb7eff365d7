-- Pages that are mapped as zeros, and pages that get another protection (mmap(2) with MAP_FIXED and
-- MAP_ANONYMOUS, and mprotect(2)). A range of pages is its first number and a count.
use Rattle.std.specs.Prelude.{ℕ, zero, suc, ◌+◌, is_some, if◌then◌else◌}
use Rattle.std.specs.FinMap.{get, insert}
pub use Rattle.raw_pages.specs.Pages.{zero_bytes, zero_page, pages_with_protection}
use Rattle.guest_space.specs.Memory.{Pages}

-- the pages with a page of zeros at each number of the range, whatever stood there
unfoldable pub with_zeros : Pages → ℕ → ℕ → ℕ → Pages
with_zeros pages first zero protection = pages
with_zeros pages first (suc count) protection =
    insert (with_zeros pages first count protection) (first + count) (zero_page protection)

-- how many numbers of the range have no page
unfoldable pub absent_count : Pages → ℕ → ℕ → ℕ
absent_count pages first zero = 0
absent_count pages first (suc count) =
    absent_count pages first count + (if is_some (get pages (first + count)) then 0 else 1)

-- the greatest number of pages that may be mapped at a time (this project's own)
abbrev pub page_limit : ℕ
page_limit = 131072

-- the number of pages mapped from `first` on before the first absent one, at most `count`
unfoldable pub mapped_run : Pages → ℕ → ℕ → ℕ
mapped_run pages first zero = 0
mapped_run pages first (suc count) = if is_some (get pages first) then mapped_run pages (first + 1) count + 1 else 0

-- the pages with this protection at each number of the range that is mapped
unfoldable pub with_protection : Pages → ℕ → ℕ → ℕ → Pages
with_protection pages first zero protection = pages
with_protection pages first (suc count) protection =
    let before = with_protection pages first count protection in
    pages_with_protection before (first + count) (get before (first + count)) protection
