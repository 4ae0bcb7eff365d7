-- What is told of entries. (The form is this project's own.)
use Rattle.std.specs.Prelude.{ℕ, zero, suc, ◌*◌, true, false, List, [], ◌∷◌, ◌++◌, drop, length, unwrap_or, nat_lt, if◌then◌else◌}
use Rattle.guest_space.specs.Bytes as guest
use Rattle.guest_space.specs.Memory.{Memory}
use Rattle.host_mem.specs.Memory.{bytes_at}
use Rattle.kernel_model.specs.Shared.{PollSet}
use Rattle.layouts.specs.Number.{bytes_of, unsigned}
use Rattle.number_tables.specs.PollNumbers.{native_poll_read, o32_poll}
use Rattle.o32_model.specs.Polling.{entry_pieces}
use Rattle.o32_model.specs.Results.{Piece}
use Rattle.bridge_poll.specs.declared.entries.Entries.{Entries}

-- the native entries from a place on in host memory; none where they are not all there
abbrev pub told_bytes : List ℕ → ℕ → ℕ → List ℕ
told_bytes memory place count = unwrap_or (bytes_at memory place (count * 8)) []

-- what is told of the first of some native entries, and nothing where there is none
abbrev pub told_of : List ℕ → PollSet
told_of bytes = native_poll_read (if nat_lt (length bytes) 8 then 0 else unsigned false 2 (drop 6 bytes))

-- of so many
unfoldable pub told_all : ℕ → List ℕ → List PollSet
told_all zero bytes = []
told_all (suc more) bytes = told_of bytes ∷ told_all more (drop 8 bytes)

-- an entry as it is stored
abbrev pub piece_of : Memory → ℕ → PollSet → List ℕ
piece_of memory address events = guest.bytes_at memory.pages address 6 ++ bytes_of true 2 (o32_poll events)

abbrev pub pieces_told : Memory → Entries → List ℕ → List Piece
pieces_told memory entries told = entry_pieces memory entries.address (told_all entries.count told)
