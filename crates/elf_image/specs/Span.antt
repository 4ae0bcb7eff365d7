-- Parts of the guest's memory, and the pages of 4096 bytes that they touch.
-- Source: System V gABI, "Program Loading", for pages and segments. The size of a page is this project's own.
use Rattle.std.specs.Prelude.{ℕ, zero, suc, ◌+◌, ◌*◌, Bool, ◌&&◌, List, nat_lt, if◌then◌else◌}
use Rattle.std.specs.List.{list_any}

-- the bytes of memory from `start` up to `end`, without the byte at `end`
pub record Span : Type 0 where
  pub start : ℕ
  pub end : ℕ

-- whether two spans, neither of them empty, have a byte in common
abbrev pub overlaps : Span → Span → Bool
overlaps a b = nat_lt a.start b.end && nat_lt b.start a.end

-- the bytes of a page
abbrev pub page_span : ℕ → Span
page_span page = record { start = page * 4096; end = page * 4096 + 4096 }

-- whether some of the spans touch a page
abbrev pub touch : List Span → ℕ → Bool
touch spans page = list_any (overlaps (page_span page)) spans

-- how many of the numbers below n pass a test
unfoldable pub count_below : (ℕ → Bool) → ℕ → ℕ
count_below test zero = 0
count_below test (suc n) = count_below test n + (if test n then 1 else 0)

-- how many of the 2^20 pages of the 32-bit address space the spans touch: a page that two of them touch counts once
unfoldable pub pages_touched : List Span → ℕ
pages_touched spans = count_below (touch spans) 1048576
