-- A piece of bytes that ends one page and begins the next. Only the private parts of the crate cite this.
use Rattle.std.specs.Prelude.{ℕ, ◌+◌, List}
use Rattle.std.specs.FinMap.{get}
use Rattle.raw_pages.specs.Pages.{pages_with_piece}
use Rattle.guest_space.specs.Memory.{Pages}

-- the pages with a piece at the end of one of them and a piece at the begin of the next
abbrev pub with_both : Pages → ℕ → ℕ → List ℕ → List ℕ → Pages
with_both pages number place front back =
    pages_with_piece (pages_with_piece pages number (get pages number) place front) (number + 1) (get pages (number + 1)) 0 back
