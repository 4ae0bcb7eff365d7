-- The bytes and the numbers that stand in guest memory, and what a write leaves there. Numbers are
-- big-endian: the byte at the lowest address counts most (MIPS32 Architecture for Programmers,
-- Volume II, with the big-endian byte order).
use Rattle.std.specs.Prelude.{ℕ, zero, suc, ◌+◌, ◌/◌, ◌%◌, Bool, true, ◌&&◌, List, [], ◌∷◌, slice_index, slice_set, Option, Some, None, Result}
use Rattle.std.specs.FinMap.{get, insert}
use Rattle.byteorder.specs.Endian.{big_number, big_bytes}
use Rattle.guest_space.specs.declared.access.Access.TheVariants.{Load}
use Rattle.guest_space.specs.Memory.{MappedPage, Pages, Memory}
use Rattle.guest_space.specs.Access.{Denied, first_denied, unless_denied, is_ready}

-- the byte at a place of a page, and 0 where there is no page
abbrev pub page_byte : Option MappedPage → ℕ → ℕ
page_byte None place = 0
page_byte (Some page) place = slice_index page.bytes place

-- the byte at an address, and 0 where no page is
unfoldable pub byte_at : Pages → ℕ → ℕ
byte_at pages address = page_byte (get pages (address / 4096)) (address % 4096)

-- the `count` bytes from the address on
unfoldable pub bytes_at : Pages → ℕ → ℕ → List ℕ
bytes_at pages address zero = []
bytes_at pages address (suc count) = byte_at pages address ∷ bytes_at pages (address + 1) count

-- the page with a byte in its place, and ready
abbrev pub page_with_byte : MappedPage → ℕ → ℕ → MappedPage
page_with_byte page place byte = record page { ready = true; bytes = slice_set page.bytes place byte }

-- the pages with `page`, where there is one, changed by a byte
abbrev pub pages_with_byte : Pages → ℕ → Option MappedPage → ℕ → ℕ → Pages
pages_with_byte pages number None place byte = pages
pages_with_byte pages number (Some page) place byte = insert pages number (page_with_byte page place byte)

-- the pages with a byte written at the address, which makes its page ready; where no page is, nothing changes
unfoldable pub with_byte : Pages → ℕ → ℕ → Pages
with_byte pages address byte =
    pages_with_byte pages (address / 4096) (get pages (address / 4096)) (address % 4096) byte

-- the pages with the bytes written one after another from the address on
unfoldable pub with_bytes : Pages → ℕ → List ℕ → Pages
with_bytes pages address [] = pages
with_bytes pages address (byte ∷ bytes) = with_bytes (with_byte pages address byte) (address + 1) bytes

-- whether each of the `count` bytes from the address on stands in a ready page
unfoldable pub are_ready : Pages → ℕ → ℕ → Bool
are_ready pages address zero = true
are_ready pages address (suc count) = is_ready (get pages (address / 4096)) && are_ready pages (address + 1) count

-- What a load of `width` bytes gives: their number, or the first byte that may not be loaded.
unfoldable pub read : Memory → ℕ → ℕ → Result ℕ Denied
read memory address width =
    unless_denied (first_denied Load memory.pages address width) (big_number width (bytes_at memory.pages address width))

-- The memory with these bytes at the address.
unfoldable pub copied_out : Memory → ℕ → List ℕ → Memory
copied_out memory address bytes = record memory { pages = with_bytes memory.pages address bytes }

-- The memory after a store of the value's lowest `width` bytes at the address.
unfoldable pub written : Memory → ℕ → ℕ → ℕ → Memory
written memory address width value = copied_out memory address (big_bytes width value)
