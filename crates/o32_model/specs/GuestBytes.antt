-- What calls read and write in the program's memory: structures, buffers, and vectors of buffers (readv(2)). (That a structure is stored
-- whole or not at all, and that a transfer moves the longest prefix of its bytes that can be accessed, is this project's own.)
pub use Rattle.o32_model.specs.declared.range.Range.{Range}
use Rattle.std.specs.Prelude.{ℕ, zero, suc, ◌+◌, ◌-◌, ◌*◌, ◌^◌, ◌==◌, ℤ, pos, nat_abs, Bool, List, [], ◌∷◌, ◌++◌, take, drop, length, slice_index_or, sum_by, Option, Some, None, is_none, Ok, Err, nat_lt, if◌then◌else◌}
use Rattle.guest_space.specs.Access.{first_denied, readable_prefix, writable_prefix}
use Rattle.guest_space.specs.Bytes.{bytes_at, copied_out}
use Rattle.guest_space.specs.Memory.{Memory}
use Rattle.guest_space.specs.declared.access.Access.TheVariants.{Load, Store}
use Rattle.guest_space.specs.declared.access.Denied.{Denied}
use Rattle.kernel_core.specs.declared.error.Errno.TheVariants.{EFAULT, EINVAL}
use Rattle.kernel_model.specs.Came.{Given}
use Rattle.layouts.specs.O32.{iovec}
use Rattle.layouts.specs.Shape.{record_values}

-- Structures

-- the bytes of a structure: EFAULT where one of them can't be loaded

abbrev pub given : Option Denied → List ℕ → Given (List ℕ)
given None bytes = Ok bytes
given (Some denied) bytes = Err EFAULT

abbrev pub structure : Memory → ℕ → ℕ → Given (List ℕ)
structure memory address size = given (first_denied Load memory.pages address size) (bytes_at memory.pages address size)

-- what is read from the bytes of a structure
abbrev pub read_as : {A B : Type 0} → (A → B) → Given A → Given B
read_as meaning (Err error) = Err error
read_as meaning (Ok bytes) = Ok (meaning bytes)

-- whether each of so many bytes can be stored, and memory with bytes that are stored where each of them can be
abbrev pub is_storable : Memory → ℕ → ℕ → Bool
is_storable memory address count = is_none (first_denied Store memory.pages address count)

abbrev pub with_stored : Memory → ℕ → List ℕ → Memory
with_stored memory address bytes = if is_storable memory address (length bytes) then copied_out memory address bytes else memory

-- A pointer that may be null: nothing is read there.
abbrev pub unless_null : {A : Type 0} → ℕ → A → Option A
unless_null address there = if address == 0 then None else Some there

-- Buffers

-- how many of so many bytes from an address on can be stored, up to the first that can't
abbrev pub accessible : Memory → ℕ → ℕ → ℕ
accessible memory address count = writable_prefix memory.pages address count

-- those of so many bytes that can be loaded, up to the first that can't
abbrev pub loadable : Memory → ℕ → ℕ → List ℕ
loadable memory address count = bytes_at memory.pages address (readable_prefix memory.pages address count)

-- Vectors

-- how many buffers a vector has at most (UIO_MAXIOV of Linux include/uapi/linux/uio.h)
abbrev pub vector_limit : ℕ
vector_limit = 1024

-- how many bytes they have at most in all (SSIZE_MAX of limits.h)
abbrev pub sum_limit : ℕ
sum_limit = 2 ^ 31 - 1

abbrev pub range_of : List ℤ → Range
range_of values = record {
  address = nat_abs (slice_index_or values 0 (pos 0));
  length = nat_abs (slice_index_or values 1 (pos 0));
}

-- the buffers that so many structures name, one behind the other
abbrev pub ranges_in : ℕ → List ℕ → List Range
ranges_in zero bytes = []
ranges_in (suc more) bytes = range_of (record_values iovec bytes) ∷ ranges_in more (drop iovec.size bytes)

abbrev pub total : List Range → ℕ
total ranges = sum_by (λ (range : Range). range.length) ranges

abbrev pub if_countable : Given (List Range) → Given (List Range)
if_countable (Err error) = Err error
if_countable (Ok ranges) = if nat_lt sum_limit (total ranges) then Err EINVAL else Ok ranges

-- The buffers of a vector: EINVAL for too many, then EFAULT where the vector can't be read, then EINVAL for too many bytes.
abbrev pub vector : Memory → ℕ → ℕ → Given (List Range)
vector memory address count =
    if nat_lt vector_limit count then Err EINVAL
    else if_countable (read_as (ranges_in count) (structure memory address (count * iovec.size)))

-- what a transfer knows of a vector that may be wrong: how many bytes are asked for, and which buffers there are
abbrev pub asked : Given (List Range) → Given ℕ
asked ranges = read_as total ranges

abbrev pub buffers : Given (List Range) → List Range
buffers (Err error) = []
buffers (Ok ranges) = ranges

-- The bytes of a vector are those of its buffers in order.

-- how many of them can be stored, up to the first that can't
abbrev pub all_accessible : Memory → List Range → ℕ
all_accessible memory [] = 0
all_accessible memory (range ∷ ranges) =
    let there = accessible memory range.address range.length in
    if there == range.length then there + all_accessible memory ranges else there

-- those that can be loaded, up to the first that can't
abbrev pub all_loadable : Memory → List Range → List ℕ
all_loadable memory [] = []
all_loadable memory (range ∷ ranges) =
    let bytes = loadable memory range.address range.length in
    bytes ++ (if length bytes == range.length then all_loadable memory ranges else [])

-- memory with the first bytes of a vector replaced by these
abbrev pub all_copied_out : Memory → List Range → List ℕ → Memory
all_copied_out memory [] bytes = memory
all_copied_out memory (range ∷ ranges) bytes =
    all_copied_out (copied_out memory range.address (take range.length bytes)) ranges (drop range.length bytes)
