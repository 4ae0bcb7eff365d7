-- Which descriptors are ready: poll(2), ppoll(2).
use Rattle.std.specs.Prelude.{ℕ, zero, suc, ◌+◌, ◌*◌, ℤ, pos, negsuc, nat_abs, true, List, [], ◌∷◌, ◌++◌, drop, count_by, slice_index_or, Option, Some, None}
use Rattle.guest_space.specs.Bytes.{bytes_at}
use Rattle.guest_space.specs.Memory.{Memory}
use Rattle.kernel_core.specs.declared.error.Errno.TheVariants.{EFAULT}
use Rattle.kernel_model.specs.Came.{Given, refused}
use Rattle.kernel_model.specs.Clock.{length_of, checked_or_none}
use Rattle.kernel_model.specs.Readiness.{PollEntry, is_any, masked_wait, poll, poll_wait}
use Rattle.kernel_model.specs.Shared.{PollSet}
use Rattle.kernel_model.specs.SignalSets.{SignalSet}
use Rattle.kernel_model.specs.State.{Kernel}
use Rattle.layouts.specs.Number.{bytes_of}
use Rattle.layouts.specs.O32.{pollfd}
use Rattle.layouts.specs.Shape.{record_values}
use Rattle.number_tables.specs.PollNumbers.{o32_poll, o32_poll_read}
use Rattle.o32_calls.specs.Numbers.{poll_number}
use Rattle.o32_calls.specs.declared.times.PollCall.TheVariants.{Poll, Ppoll}
use Rattle.o32_model.specs.GuestBytes.{structure, read_as, unless_null}
use Rattle.o32_model.specs.Masks.{set_at, with_own_mask}
use Rattle.o32_model.specs.Results.{Piece, stores_pieces}
use Rattle.o32_model.specs.Step.{Guest, O32Step, O32Row, gives}
use Rattle.o32_model.specs.TimeLeft.{with_time_left}
use Rattle.o32_model.specs.Times.{spec_at, spec_bytes}
use Rattle.o32_model.specs.Words.{argument, signed_argument, stack_word}

-- Entries (struct pollfd of poll(2))

-- an entry whose descriptor is below 0 is skipped; bits that are not listed ask for nothing

abbrev pub descriptor_of : ℤ → Option ℕ
descriptor_of (pos fd) = Some fd
descriptor_of (negsuc fd) = None

abbrev pub entry_of : List ℤ → PollEntry
entry_of values = record {
  fd = descriptor_of (slice_index_or values 0 (pos 0));
  events = o32_poll_read (nat_abs (slice_index_or values 1 (pos 0)));
}

unfoldable pub entries_in : ℕ → List ℕ → List PollEntry
entries_in zero bytes = []
entries_in (suc more) bytes = entry_of (record_values pollfd bytes) ∷ entries_in more (drop pollfd.size bytes)

abbrev pub entries_at : Memory → ℕ → ℕ → Given (List PollEntry)
entries_at memory address count = read_as (entries_in count) (structure memory address (count * pollfd.size))

-- how many bytes of an entry stand before what is told
abbrev pub asked_size : ℕ
asked_size = 6

-- Each entry is stored by itself, with what is told of it behind what it asks.
abbrev pub entry_pieces : Memory → ℕ → List PollSet → List Piece
entry_pieces memory address [] = []
entry_pieces memory address (events ∷ more) =
    record { address = address; bytes = bytes_at memory.pages address asked_size ++ bytes_of true 2 (o32_poll events) }
    ∷ entry_pieces memory (address + pollfd.size) more

-- The calls

-- The result is the number of entries of which something is told. `wait` is how long the call may wait, or what is wrong with the time or
-- the mask.
abbrev pub polled : Kernel → Guest → ℕ → ℕ → Given (Option ℕ) → List ℕ → O32Step
polled kernel guest address count wait left =
    stores_pieces (entry_pieces guest.memory address) (λ events. count_by is_any events) guest
    (poll kernel wait count (entries_at guest.memory address count)) left

unfoldable pub poll_row : Kernel → Guest → ℕ → ℕ → ℤ → List ℕ → O32Step
poll_row kernel guest address count milliseconds left = polled kernel guest address count (poll_wait milliseconds) left

-- the time is read and checked, and then, where there is a mask, its size and the mask itself
abbrev pub ppolled : Kernel → Guest → ℕ → ℕ → ℕ → Given (Option ℕ) → ℕ → Option (Given SignalSet) → List ℕ → O32Step
ppolled kernel guest address count time length size mask left =
    with_time_left (record { address = time; bytes = spec_bytes }) kernel guest.memory length
    (with_own_mask kernel mask (polled kernel guest address count (masked_wait length size mask) left))

-- the size of the mask is on the stack, and where it can't be read, that is EFAULT before all else (own)
unfoldable pub ppoll_row : Kernel → Guest → ℕ → ℕ → ℕ → ℕ → Option ℕ → List ℕ → O32Step
ppoll_row kernel guest address count time mask None left = gives guest (refused kernel EFAULT) left
ppoll_row kernel guest address count time mask (Some size) left =
    ppolled kernel guest address count time
    (checked_or_none length_of (unless_null time (spec_at guest.memory time))) size
    (unless_null mask (set_at guest.memory mask)) left

-- The numbers (Linux arch/mips/include/uapi/asm/unistd.h, the o32 table)
abbrev pub poll_calls : List O32Row
poll_calls =
    record { number = poll_number Poll; step = λ kernel guest. poll_row kernel guest (argument guest.words 0) (argument guest.words 1) (signed_argument guest.words 2) }
    ∷ record { number = poll_number Ppoll; step = λ kernel guest. ppoll_row kernel guest (argument guest.words 0) (argument guest.words 1) (argument guest.words 2) (argument guest.words 3) (stack_word guest.words 0) }
    ∷ []
