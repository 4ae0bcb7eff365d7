-- Guest memory as contracts see it: a finite map from page numbers to pages, and the program break.
-- A page has 4096 bytes, and the byte at an address stands in the page address / 4096 at the place
-- address % 4096. (Linux manual page mmap(2); the sizes are this project's own.)
use Rattle.std.specs.Prelude.{◌≡◌, ℕ, ◌<◌, ◌≤◌, length, slice_index, Some, refl}
use Rattle.std.specs.Coded.{Coded, code_by, coded×, coded_ℕ}
use Rattle.std.specs.FinMap.{get}
pub use Rattle.raw_pages.specs.Pages.{MappedPage, mapped_page_code, Pages, pages_code}

-- A page that a memory may have at a number: the number lies in user space, which has 524,280 pages,
-- the protection has three bits, and there are 4096 bytes.
pub record IsPage (number : ℕ) (page : MappedPage) : Type 0 where
  pub inside : number < 524280
  pub three_bits : page.protection ≤ 7
  pub whole : length page.bytes ≡ 4096
  pub are_bytes : (place : ℕ) → slice_index page.bytes place < 256

-- each page is one that a memory may have
unfoldable pub IsValid : Pages → Type 0
IsValid pages = (number : ℕ) (page : MappedPage) → get pages number ≡ Some page → IsPage number page

-- the mapped pages, the program break and the place where the break began (brk(2))
pub record Memory : Type 0 where
  pub pages : Pages
  pub program_break : ℕ
  pub break_start : ℕ

abbrev pub memory_code : Coded Memory
memory_code =
    code_by (Pages × (ℕ × ℕ)) (coded× pages_code (coded× coded_ℕ coded_ℕ))
    (λ m. (m.pages, (m.program_break, m.break_start))) (λ t. record { pages = t.0; program_break = t.1.0; break_start = t.1.1 }) (λ _. refl)
