-- The calls that wait for descriptors: ppoll(2) (poll(2)), pselect(2) (select(2)). Their masks are read and have no effect here: whoever makes
-- the call sets the mask.
use Rattle.std.specs.Prelude.{ℕ, zero, suc, ◌+◌, ◌*◌, ◌/◌, ◌%◌, ◌^◌, ◌==◌, ℤ, pos, negsuc, nat_abs, Bool, false, List, [], ◌∷◌, drop, filter, count_by, slice_index_or, Option, Some, None, Ok, Err, if◌then◌else◌}
use Rattle.std.specs.List.{flat_map, list_any}
use Rattle.host_mem.specs.Memory.{written}
use Rattle.kernel_model.specs.Came.{Came, Done, Refused, Waits, Did, Given}
use Rattle.kernel_model.specs.Clock.{length_of, checked_or_none, left_of_wait}
use Rattle.kernel_model.specs.Pipes.{nothing}
use Rattle.kernel_model.specs.Readiness.{PollEntry, Sets, poll, select, is_any, counted_fds, masked_wait, set_count}
use Rattle.kernel_model.specs.Shared.{PollSet}
use Rattle.kernel_model.specs.State.{Kernel}
use Rattle.layouts.specs.Native.{native_shape}
use Rattle.layouts.specs.Number.{bytes_of, unsigned}
use Rattle.layouts.specs.Shape.{Shape, record_values}
use Rattle.layouts.specs.Termios.{count_up}
use Rattle.layouts.specs.declared.native.NativeStructure.TheVariants as structures
use Rattle.native_calls.specs.Arguments.{argument, word, signed_word}
use Rattle.native_calls.specs.HostBytes.{structure, read_as, unless_null}
use Rattle.native_calls.specs.SignalBytes.{set_at}
use Rattle.native_calls.specs.Step.{NativeStep, NativeCall, value, reply_to, memory_after}
use Rattle.native_calls.specs.Times.{time_at, time_bytes}
use Rattle.number_tables.specs.PollNumbers.{native_poll, native_poll_read}
use Rattle.signal_sets.specs.NativeSets.{bits_where}

-- How long they wait: without end where the time is null
abbrev pub wait_at : List ℕ → ℕ → Given (Option ℕ)
wait_at memory time = checked_or_none length_of (unless_null time (time_at memory time))

-- The time left, which is stored where the time was at every end of a call, also at an error once the time was accepted, and nowhere while it
-- waits (own). There is room for it, since the time was read.

abbrev pub with_left : List ℕ → ℕ → Option ℕ → List ℕ
with_left memory time None = memory
with_left memory time (Some remaining) = written memory time (time_bytes remaining)

abbrev pub with_time_left : Kernel → ℕ → Given (Option ℕ) → List ℕ → List ℕ
with_time_left kernel time (Err error) memory = memory
with_time_left kernel time (Ok length) memory = with_left memory time (left_of_wait kernel kernel.clock length)

abbrev pub at_end : {V : Type 0} → (List ℕ → List ℕ) → List ℕ → Came V → List ℕ
at_end with_left memory (Done found) = with_left memory
at_end with_left memory (Refused error) = with_left memory
at_end with_left memory (Waits wake) = memory

-- What a call that waits for descriptors leaves: `store` is memory with what it found, and `count` the reply to that.
abbrev pub waits_for : {V : Type 0} → (V → List ℕ) → (V → ℕ) → (List ℕ → List ℕ) → List ℕ → Did Kernel V → List ℕ → NativeStep
waits_for store count with_left memory did left = record {
  kernel = did.state;
  left = left;
  memory = at_end with_left (memory_after store memory did.came) did.came;
  sent = nothing;
  reply = reply_to (λ found. value (count found)) did.came;
}

-- poll

abbrev pub pollfd : Shape
pollfd = native_shape structures.Pollfd

-- a descriptor below 0 is skipped
abbrev pub unless_negative : ℤ → Option ℕ
unless_negative (pos fd) = Some fd
unless_negative (negsuc fd) = None

-- the descriptor and the events that are asked for
abbrev pub entry_of : List ℤ → PollEntry
entry_of values = record {
  fd = unless_negative (slice_index_or values 0 (pos 0));
  events = native_poll_read (nat_abs (slice_index_or values 1 (pos 0)));
}

abbrev pub entries_in : ℕ → List ℕ → List PollEntry
entries_in zero bytes = []
entries_in (suc more) bytes = entry_of (record_values pollfd bytes) ∷ entries_in more (drop pollfd.size bytes)

-- of no entries nothing is read
abbrev pub entries_at : List ℕ → ℕ → ℕ → Given (List PollEntry)
entries_at memory address count =
    if count == 0 then Ok [] else read_as (entries_in count) (structure memory address (count * pollfd.size))

-- where an entry has what is told of it, two bytes
abbrev pub returned_offset : ℕ
returned_offset = 6

-- memory with the events that are told, one entry after the other
abbrev pub polled : ℕ → List ℕ → List PollSet → List ℕ
polled address memory [] = memory
polled address memory (events ∷ more) =
    polled (address + pollfd.size) (written memory (address + returned_offset) (bytes_of false 2 (native_poll events))) more

-- the reply is how many entries are told any event
unfoldable pub ppoll_row : Kernel → List ℕ → ℕ → ℕ → ℕ → ℕ → ℕ → List ℕ → NativeStep
ppoll_row kernel memory address count time mask size left =
    waits_for (polled address memory) (count_by is_any) (with_time_left kernel time (wait_at memory time)) memory
    (poll kernel (masked_wait (wait_at memory time) size (unless_null mask (set_at memory mask))) count (entries_at memory address count)) left

-- select

-- A set of descriptors has as many whole words of 64 bits as its count needs, and a descriptor has a bit there.

abbrev pub set_words : ℕ → ℕ
set_words count = (count + 63) / 64

abbrev pub has_fd : List ℕ → ℕ → Bool
has_fd bytes fd = unsigned false 8 (drop (8 * (fd / 64)) bytes) / 2 ^ (fd % 64) % 2 == 1

abbrev pub fds_in : ℕ → List ℕ → List ℕ
fds_in count bytes = filter (has_fd bytes) (count_up 0 count)

abbrev pub is_among : List ℕ → ℕ → Bool
is_among fds fd = list_any (λ other. other == fd) fds

abbrev pub fds_bytes : ℕ → List ℕ → List ℕ
fds_bytes count fds = flat_map (λ k. bytes_of false 8 (bits_where (is_among fds) (64 * k) 64)) (count_up 0 (set_words count))

-- the descriptors of a set; none where it is null, or nothing is counted
abbrev pub fds_at : List ℕ → ℕ → ℕ → Given (List ℕ)
fds_at memory count address =
    if count == 0 then Ok [] else if address == 0 then Ok [] else read_as (fds_in count) (structure memory address (8 * set_words count))

-- where the sets are
pub record SetPlaces : Type 0 where
  pub read : ℕ
  pub write : ℕ
  pub except : ℕ

-- the three sets, read in their order

abbrev pub all_sets : Given (List ℕ) → Given (List ℕ) → Given (List ℕ) → Given Sets
all_sets (Err error) write except = Err error
all_sets (Ok read) (Err error) except = Err error
all_sets (Ok read) (Ok write) (Err error) = Err error
all_sets (Ok read) (Ok write) (Ok except) = Ok (record { read = read; write = write; except = except })

abbrev pub sets_at : List ℕ → ℕ → SetPlaces → Given Sets
sets_at memory count places = all_sets (fds_at memory count places.read) (fds_at memory count places.write) (fds_at memory count places.except)

-- memory with the sets of what is ready, one after the other; nothing is stored at null
abbrev pub selected : ℕ → SetPlaces → List ℕ → Sets → List ℕ
selected count places memory sets =
    let first = written memory places.read (fds_bytes count sets.read) in
    let second = written first places.write (fds_bytes count sets.write) in
    written second places.except (fds_bytes count sets.except)

-- what the last argument of pselect(2) points to: the address of a mask and the size of a set, two numbers of 8 bytes
pub record MaskArgument : Type 0 where
  pub mask : ℕ
  pub size : ℕ

abbrev pub number_size : ℕ
number_size = 8

abbrev pub mask_argument_size : ℕ
mask_argument_size = 2 * number_size

abbrev pub mask_argument_in : List ℕ → MaskArgument
mask_argument_in bytes = record {
  mask = unsigned false number_size bytes;
  size = unsigned false number_size (drop number_size bytes);
}

abbrev pub mask_argument_at : List ℕ → ℕ → Option (Given MaskArgument)
mask_argument_at memory address = unless_null address (read_as mask_argument_in (structure memory address mask_argument_size))

-- It is read first, and then the time; the mask is looked at last.

abbrev pub after_argument : {A B : Type 0} → Option (Given A) → Given B → Given B
after_argument None given = given
after_argument (Some (Ok found)) given = given
after_argument (Some (Err error)) given = Err error

abbrev pub masked_by : List ℕ → Given (Option ℕ) → Option (Given MaskArgument) → Given (Option ℕ)
masked_by memory wait None = wait
masked_by memory wait (Some (Err error)) = Err error
masked_by memory wait (Some (Ok argument)) = masked_wait wait argument.size (unless_null argument.mask (set_at memory argument.mask))

-- the reply is how many bits are set
unfoldable pub pselect_row : Kernel → List ℕ → ℤ → SetPlaces → ℕ → ℕ → List ℕ → NativeStep
pselect_row kernel memory count places time argument left =
    let fds = counted_fds count in
    let given = mask_argument_at memory argument in
    waits_for (selected fds places memory) set_count (with_time_left kernel time (after_argument given (wait_at memory time))) memory
    (select kernel (masked_by memory (wait_at memory time) given) count (sets_at memory fds places)) left

-- The numbers (Linux include/uapi/asm-generic/unistd.h)
abbrev pub poll_calls : List NativeCall
poll_calls =
    record {
      number = 72;
      step = λ args kernel memory.
          pselect_row kernel memory (signed_word args 0) (record { read = argument args 1; write = argument args 2; except = argument args 3 })
          (argument args 4) (argument args 5);
    }
    ∷ record {
      number = 73;
      step = λ args kernel memory.
          ppoll_row kernel memory (argument args 0) (word args 1) (argument args 2) (argument args 3) (argument args 4);
    }
    ∷ []
