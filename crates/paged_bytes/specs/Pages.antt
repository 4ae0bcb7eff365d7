-- Bytes in pages of 4096: what a piece of bytes makes of a page, and how many bytes lie in one page. The byte at `at` stands in
-- the page at / 4096 at the place at % 4096. (That a page has 4096 bytes is the base page of mmap(2) on most machines; here it is
-- this project's own rule.)
use Rattle.std.specs.Prelude.{ℕ, suc, ◌-◌, ◌%◌, min, List, [], ◌∷◌, replicate, slice_set}

-- the number of bytes of a page
abbrev pub page_size : ℕ
page_size = 4096

-- a page of zeros
unfoldable pub zero_page : List ℕ
zero_page = replicate page_size 0

-- the list with the piece from a place on
abbrev pub put_at : List ℕ → ℕ → List ℕ → List ℕ
put_at all place [] = all
put_at all place (byte ∷ piece) = put_at (slice_set all place byte) (suc place) piece

-- how many of `count` bytes from a place on lie in the place's own page
abbrev pub count_in_page : ℕ → ℕ → ℕ
count_in_page at count = min count (page_size - at % page_size)
