-- The entries of a call in host memory. (The form is this project's own.)
use Rattle.std.specs.Prelude.{ℕ, zero, suc, ◌*◌, Bool, true, false, List, [], ◌++◌, drop, Option, Some, None, is_none, nat_lt, if◌then◌else◌}
use Rattle.guest_space.specs.Access.{first_denied}
use Rattle.guest_space.specs.Bytes.{bytes_at}
use Rattle.guest_space.specs.Memory.{Memory}
use Rattle.guest_space.specs.declared.access.Access.TheVariants.{Load}
use Rattle.host_mem.specs.Memory.{end_address}
use Rattle.kernel_model.specs.Readiness.{entry_limit}
use Rattle.layouts.specs.Number.{bytes_of, unsigned}
use Rattle.number_tables.specs.PollNumbers.{native_poll, o32_poll_read}
use Rattle.bridge_poll.specs.declared.entries.Entries.{Entries}

-- the events that an entry asks for, as a native number
abbrev pub native_events : List ℕ → ℕ
native_events bytes = native_poll (o32_poll_read (unsigned true 2 (drop 4 bytes)))

-- an entry as the native kernel has it, of which nothing is told yet
abbrev pub native_entry : List ℕ → List ℕ
native_entry bytes = bytes_of false 4 (unsigned true 4 bytes) ++ bytes_of false 2 (native_events bytes) ++ bytes_of false 2 0

-- so many entries
unfoldable pub native_entries : ℕ → List ℕ → List ℕ
native_entries zero bytes = []
native_entries (suc more) bytes = native_entry bytes ++ native_entries more (drop 8 bytes)

-- whether each byte of the entries can be loaded
abbrev pub is_loadable : Memory → Entries → Bool
is_loadable memory entries = is_none (first_denied Load memory.pages entries.address (entries.count * 8))

-- what is put into host memory: nothing where there are too many, or where one of them can't be loaded
abbrev pub bytes_put : Memory → Entries → Option (List ℕ)
bytes_put memory entries =
    if nat_lt entry_limit entries.count then None
    else (if is_loadable memory entries
    then Some (native_entries entries.count (bytes_at memory.pages entries.address (entries.count * 8)))
    else None)

-- where it is put, and host memory then

abbrev pub place_of : List ℕ → Option (List ℕ) → ℕ
place_of memory None = 0
place_of memory (Some bytes) = end_address memory

abbrev pub memory_with : List ℕ → Option (List ℕ) → List ℕ
memory_with memory None = memory
memory_with memory (Some bytes) = memory ++ bytes
