-- What calls read and write in host memory: structures, buffers, and vectors of buffers (readv(2)). Memory is the list of its bytes, which
-- can be read and written alike.
use Rattle.std.specs.Prelude.{ℕ, zero, suc, ◌+◌, ◌-◌, ◌*◌, ◌^◌, ◌==◌, min, ℤ, pos, nat_abs, List, [], ◌∷◌, ◌++◌, take, drop, slice_index_or, sum_by, Option, Some, None, Ok, Err, nat_lt, if◌then◌else◌}
use Rattle.host_mem.specs.Memory.{first_address, room_from, bytes_at, written}
use Rattle.kernel_core.specs.declared.error.Errno.TheVariants.{EFAULT, EINVAL}
use Rattle.kernel_model.specs.Came.{Given}
use Rattle.layouts.specs.Native.{iovec}
use Rattle.layouts.specs.Shape.{record_values}
use Rattle.native_calls.specs.declared.range.Range.{Range}

-- Structures

-- the bytes of a structure: EFAULT where they are not all there

abbrev pub given : Option (List ℕ) → Given (List ℕ)
given None = Err EFAULT
given (Some bytes) = Ok bytes

abbrev pub structure : List ℕ → ℕ → ℕ → Given (List ℕ)
structure memory address size = given (bytes_at memory address size)

-- what is read from the bytes of a structure
abbrev pub read_as : {A B : Type 0} → (A → B) → Given A → Given B
read_as meaning (Err error) = Err error
read_as meaning (Ok bytes) = Ok (meaning bytes)

-- A pointer that may be null: nothing is read there.
abbrev pub unless_null : {A : Type 0} → ℕ → A → Option A
unless_null address there = if address == 0 then None else Some there

-- Buffers

-- how many of so many bytes from an address on are there, up to the first that is not
abbrev pub accessible : List ℕ → ℕ → ℕ → ℕ
accessible memory address count = min count (room_from memory address)

-- those bytes
abbrev pub loadable : List ℕ → ℕ → ℕ → List ℕ
loadable memory address count = take (accessible memory address count) (drop (address - first_address) memory)

-- Vectors

-- how many buffers a vector has at most (UIO_MAXIOV of Linux include/uapi/linux/uio.h)
abbrev pub vector_limit : ℕ
vector_limit = 1024

-- how many bytes they have at most in all (SSIZE_MAX of limits.h)
abbrev pub sum_limit : ℕ
sum_limit = 2 ^ 63 - 1

abbrev pub range_of : List ℤ → Range
range_of values = record {
  address = nat_abs (slice_index_or values 0 (pos 0));
  length = nat_abs (slice_index_or values 1 (pos 0));
}

-- the buffers that so many structures name, one behind the other
abbrev pub ranges_in : ℕ → List ℕ → List Range
ranges_in zero bytes = []
ranges_in (suc more) bytes = range_of (record_values iovec bytes) ∷ ranges_in more (drop iovec.size bytes)

-- of a vector without buffers nothing is read
abbrev pub vector_structures : List ℕ → ℕ → ℕ → Given (List ℕ)
vector_structures memory address count = if count == 0 then Ok [] else structure memory address (count * iovec.size)

abbrev pub total : List Range → ℕ
total ranges = sum_by (λ (range : Range). range.length) ranges

abbrev pub if_countable : Given (List Range) → Given (List Range)
if_countable (Err error) = Err error
if_countable (Ok ranges) = if nat_lt sum_limit (total ranges) then Err EINVAL else Ok ranges

-- The buffers of a vector: EINVAL for too many, then EFAULT where the vector can't be read, then EINVAL for too many bytes.
abbrev pub vector : List ℕ → ℕ → ℕ → Given (List Range)
vector memory address count =
    if nat_lt vector_limit count then Err EINVAL
    else if_countable (read_as (ranges_in count) (vector_structures memory address count))

-- what a transfer knows of a vector that may be wrong: how many bytes are asked for, and which buffers there are
abbrev pub asked : Given (List Range) → Given ℕ
asked ranges = read_as total ranges

abbrev pub buffers : Given (List Range) → List Range
buffers (Err error) = []
buffers (Ok ranges) = ranges

-- The bytes of a vector are those of its buffers in order.

-- how many of them are there, up to the first that is not
abbrev pub all_accessible : List ℕ → List Range → ℕ
all_accessible memory [] = 0
all_accessible memory (range ∷ ranges) =
    let there = accessible memory range.address range.length in
    if there == range.length then there + all_accessible memory ranges else there

-- those bytes
abbrev pub all_loadable : List ℕ → List Range → List ℕ
all_loadable memory [] = []
all_loadable memory (range ∷ ranges) =
    loadable memory range.address range.length
    ++ (if accessible memory range.address range.length == range.length then all_loadable memory ranges else [])

-- memory with the first bytes of a vector replaced by these
abbrev pub all_written : List ℕ → List Range → List ℕ → List ℕ
all_written memory [] bytes = memory
all_written memory (range ∷ ranges) bytes =
    all_written (written memory range.address (take range.length bytes)) ranges (drop range.length bytes)
