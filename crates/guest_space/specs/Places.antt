-- Free runs of pages, and the place where a mapping goes whose caller names none. (That mappings lie from 0x10000000 up to
-- 0x70000000, and from the top down, is this project's own rule; mmap(2) leaves the choice to the kernel.)
use Rattle.std.specs.Prelude.{◌≡◌, ℕ, ◌+◌, ◌<◌, ◌≤◌, Option, Some, None}
use Rattle.std.specs.FinMap.{get}
use Rattle.guest_space.specs.Memory.{Pages}

-- no page of the range is mapped
abbrev pub IsFree : Pages → ℕ → ℕ → Type 0
IsFree pages first count = (k : ℕ) → k < count → get pages (first + k) ≡ None

-- the pages at 0x10000000 and 0x70000000
abbrev pub places_begin : ℕ
places_begin = 0x10000

abbrev pub places_end : ℕ
places_end = 0x70000

-- a free run of so many pages that a mapping may be given
pub record IsPlace (pages : Pages) (count first : ℕ) : Type 0 where
  pub from_begin : places_begin ≤ first
  pub to_end : first + count ≤ places_end
  pub free : IsFree pages first count

-- the greatest first page of such a run, and None where there is no run
abbrev pub IsGreatestPlace : Pages → ℕ → Option ℕ → Type 0
IsGreatestPlace pages count None = (other : ℕ) → IsPlace pages count other → ⊥
IsGreatestPlace pages count (Some first) =
    IsPlace pages count first × ((other : ℕ) → IsPlace pages count other → other ≤ first)
