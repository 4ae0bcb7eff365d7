-- Which bytes of guest memory may be used, and why one may not.
-- A page with any of read, write and execute may be loaded and fetched; a store needs write. User
-- space ends at 0x7FFF8000, the end of the 32-bit MIPS address space of Linux (TASK_SIZE32). The
-- names of the three reasons and their order are this project's own.
pub use Rattle.raw_pages.specs.Pages.{is_ready}
pub use Rattle.guest_space.specs.declared.access.Access.{Access}
pub use Rattle.guest_space.specs.declared.access.Denied.{Denied}
pub use Rattle.guest_space.specs.declared.access.Why.{Why}
use Rattle.std.specs.Prelude.{ℕ, zero, suc, ◌+◌, ◌-◌, ◌/◌, ◌%◌, Bool, not, ◌==◌, nat_le, if◌then◌else◌, Option, Some, None, Result, Ok, Err}
use Rattle.std.specs.FinMap.{get}
use Rattle.guest_space.specs.declared.access.Access.TheVariants.{Load, Store}
use Rattle.guest_space.specs.declared.access.Why.TheVariants.{Absent, Forbidden, Beyond}
use Rattle.guest_space.specs.Memory.{MappedPage, Pages}

-- the first address past user space
abbrev pub user_end : ℕ
user_end = 0x7FFF_8000

-- whether a page of this protection may be used so
abbrev pub allows : Access → ℕ → Bool
allows Load protection = not (protection == 0)
allows Store protection = protection / 2 % 2 == 1

-- why no byte of this page may be used so, or None where each may
abbrev pub page_refusal : Access → Option MappedPage → Option Why
page_refusal access None = Some Absent
page_refusal access (Some page) = if allows access page.protection then None else Some Forbidden

-- why the byte at the address may not be used so, or None where it may
unfoldable pub refusal : Access → Pages → ℕ → Option Why
refusal access pages address =
    if nat_le user_end address then Some Beyond else page_refusal access (get pages (address / 4096))

-- the byte at the address, where there is a reason, and else what comes of the bytes after it
abbrev pub denied_or : ℕ → Option Why → Option Denied → Option Denied
denied_or address None later = later
denied_or address (Some why) later = Some (record { addr = address; why = why })

-- The first of the `count` bytes from the address on that may not be used so, with its reason. No
-- byte from 0x7FFF8000 on may be used, so none of the bytes before it lies past 2^32.
unfoldable pub first_denied : Access → Pages → ℕ → ℕ → Option Denied
first_denied access pages address zero = None
first_denied access pages address (suc count) =
    denied_or address (refusal access pages address) (first_denied access pages (address + 1) count)

-- the bytes before the one that is denied, of `count` from the address on
abbrev pub bytes_before : ℕ → ℕ → Option Denied → ℕ
bytes_before address count None = count
bytes_before address count (Some denied) = denied.addr - address

-- the greatest m, at most `count`, such that each of the first m bytes from the address on may be loaded
unfoldable pub readable_prefix : Pages → ℕ → ℕ → ℕ
readable_prefix pages address count = bytes_before address count (first_denied Load pages address count)

-- the same, of bytes that may be stored to
unfoldable pub writable_prefix : Pages → ℕ → ℕ → ℕ
writable_prefix pages address count = bytes_before address count (first_denied Store pages address count)

-- the value, unless a byte is denied
abbrev pub unless_denied : {T : Type 0} → Option Denied → T → Result T Denied
unless_denied None value = Ok value
unless_denied (Some denied) value = Err denied
