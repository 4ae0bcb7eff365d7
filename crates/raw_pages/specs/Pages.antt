-- The pages of a store as contracts see them: a finite map from page numbers to pages.
-- A page has 4096 bytes. (Linux manual page mmap(2); the sizes are this project's own.)
use Rattle.std.specs.Prelude.{◌≡◌, ◌<◌, ◌≤◌, ℕ, zero, suc, ◌+◌, ◌/◌, ◌%◌, ◌==◌, Bool, true, false, Result, Ok, Err, List, [], ◌∷◌, slice_set, replicate, Option, Some, None, IsSome, refl}
use Rattle.std.specs.Coded.{Coded, code_by, coded×, coded_ℕ, coded_bool, coded_list}
use Rattle.std.specs.Ordering.{nat_cmp}
use Rattle.std.specs.FinMap.{FinMap, code, get, insert, remove}
use Rattle.raw_pages.specs.declared.write_error.WriteError.{WriteError}
use Rattle.raw_pages.specs.declared.write_error.WriteError.TheVariants.{Absent, Forbidden, NoMemory}

-- One page: its protection, whether it was written since it was mapped, and its bytes.
-- The protection adds up PROT_READ 1, PROT_WRITE 2 and PROT_EXEC 4 (asm-generic/mman-common.h).
pub record MappedPage : Type 0 where
  pub protection : ℕ
  pub ready : Bool
  pub bytes : List ℕ

abbrev pub mapped_page_code : Coded MappedPage
mapped_page_code =
    code_by (ℕ × (Bool × List ℕ)) (coded× coded_ℕ (coded× coded_bool (coded_list coded_ℕ)))
    (λ p. (p.protection, (p.ready, p.bytes))) (λ t. record { protection = t.0; ready = t.1.0; bytes = t.1.1 }) (λ _. refl)

-- the mapped pages by their numbers
abbrev pub Pages : Type 0
Pages = FinMap nat_cmp MappedPage

abbrev pub pages_code : Coded Pages
pages_code = code coded_ℕ mapped_page_code

-- 4096 zeros
unfoldable pub zero_bytes : List ℕ
zero_bytes = replicate 4096 0

-- a page of zeros that was not written
abbrev pub zero_page : ℕ → MappedPage
zero_page protection = record { protection = protection; ready = false; bytes = zero_bytes }

-- the pages with a page of zeros at each of `count` numbers from `first` on, whatever stood there
unfoldable pub pages_with_zeros : Pages → ℕ → ℕ → ℕ → Pages
pages_with_zeros pages first zero protection = pages
pages_with_zeros pages first (suc count) protection =
    insert (pages_with_zeros pages first count protection) (first + count) (zero_page protection)

-- the list with the piece from a place on
abbrev pub put_at : List ℕ → ℕ → List ℕ → List ℕ
put_at all place [] = all
put_at all place (byte ∷ piece) = put_at (slice_set all place byte) (suc place) piece

-- the page with the piece from a place on, and ready
abbrev pub with_piece : MappedPage → ℕ → List ℕ → MappedPage
with_piece page place piece = record page { ready = true; bytes = put_at page.bytes place piece }

-- the pages with one of them, where it is mapped, changed by a piece
abbrev pub pages_with_piece : Pages → ℕ → Option MappedPage → ℕ → List ℕ → Pages
pages_with_piece pages number None place piece = pages
pages_with_piece pages number (Some page) place piece = insert pages number (with_piece page place piece)

-- the page at another protection
abbrev pub with_protection : MappedPage → ℕ → MappedPage
with_protection page protection = record page { protection = protection }

-- the pages with one of them, where it is mapped, at another protection
abbrev pub pages_with_protection : Pages → ℕ → Option MappedPage → ℕ → Pages
pages_with_protection pages number None protection = pages
pages_with_protection pages number (Some page) protection = insert pages number (with_protection page protection)

-- the page as it was when it was mapped, with the protection that it has now
abbrev pub cleared_page : MappedPage → MappedPage
cleared_page page = zero_page page.protection

-- the pages with one of them, where it is mapped, as it was when it was mapped
abbrev pub pages_cleared : Pages → ℕ → Option MappedPage → Pages
pages_cleared pages number None = pages
pages_cleared pages number (Some page) = insert pages number (cleared_page page)

-- whether a page that was found was written since it was mapped; one that is not mapped was not
abbrev pub is_ready : Option MappedPage → Bool
is_ready None = false
is_ready (Some page) = page.ready

-- whether a page that was found is mapped with leave to write (PROT_WRITE)
abbrev pub is_writable : MappedPage → Bool
is_writable page = page.protection / 2 % 2 == 1

-- The answer of a write that tests the page first: success only where the page is mapped with leave to write, Absent where it
-- is not mapped, Forbidden where it has no leave to write; memory runs out only for a writable page that is not ready.
abbrev pub IsWriteAnswer : Option MappedPage → Result Unit WriteError → Type 0
IsWriteAnswer None answer = answer ≡ Err Absent
IsWriteAnswer (Some page) (Ok _) = is_writable page ≡ true
IsWriteAnswer (Some page) (Err Absent) = ⊥
IsWriteAnswer (Some page) (Err Forbidden) = is_writable page ≡ false
IsWriteAnswer (Some page) (Err NoMemory) = (is_writable page ≡ true) × (page.ready ≡ false)

-- the bytes that a read of a page shows: zeros where none is mapped
abbrev pub shown_bytes : Option MappedPage → List ℕ
shown_bytes None = zero_bytes
shown_bytes (Some page) = page.bytes

-- the greatest number below the end at which a page is mapped, or None where there is none
abbrev pub IsLastBelow : Pages → ℕ → Option ℕ → Type 0
IsLastBelow pages end None = (number : ℕ) → number < end → get pages number ≡ None
IsLastBelow pages end (Some last) =
    (last < end) × IsSome (get pages last) × ((number : ℕ) → last < number → number < end → get pages number ≡ None)

-- the greatest number from `first` up to the end at which a page is mapped, or None where there is none
abbrev pub IsLastMapped : Pages → ℕ → ℕ → Option ℕ → Type 0
IsLastMapped pages first end None = (number : ℕ) → first ≤ number → number < end → get pages number ≡ None
IsLastMapped pages first end (Some last) =
    (first ≤ last) × (last < end) × IsSome (get pages last) × ((number : ℕ) → last < number → number < end → get pages number ≡ None)

-- the greatest number from `first` up to the end at which no page is mapped, or None where there is none
abbrev pub IsLastFree : Pages → ℕ → ℕ → Option ℕ → Type 0
IsLastFree pages first end None = (number : ℕ) → first ≤ number → number < end → IsSome (get pages number)
IsLastFree pages first end (Some last) =
    (first ≤ last) × (last < end) × (get pages last ≡ None) × ((number : ℕ) → last < number → number < end → IsSome (get pages number))

-- the pages with one of them, where it is mapped, at another number
abbrev pub pages_moved : Pages → ℕ → ℕ → Option MappedPage → Pages
pages_moved pages from to None = pages
pages_moved pages from to (Some page) = insert (remove pages from) to page
