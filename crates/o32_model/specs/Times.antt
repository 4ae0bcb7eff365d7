-- Times in the program's memory: seconds with nanoseconds (timespec(3)) or with microseconds (timeval(3)), each a signed number of 32 bits.
use Rattle.std.specs.Prelude.{ℕ, ◌/◌, ◌%◌, ℤ, pos, List, [], ◌∷◌, slice_index_or}
use Rattle.guest_space.specs.Memory.{Memory}
use Rattle.kernel_model.specs.Came.{Given}
use Rattle.kernel_model.specs.Clock.{second, in_microseconds}
use Rattle.kernel_model.specs.declared.time.TimeSpec.{TimeSpec}
use Rattle.kernel_model.specs.declared.time.TimeVal.{TimeVal}
use Rattle.layouts.specs.O32.{time}
use Rattle.layouts.specs.Shape.{record_bytes, record_values}
use Rattle.o32_model.specs.GuestBytes.{structure, read_as}
use Rattle.o32_model.specs.Narrow.{low_word}

-- What is read

abbrev pub spec_of : List ℤ → TimeSpec
spec_of values = record { seconds = slice_index_or values 0 (pos 0); nanoseconds = slice_index_or values 1 (pos 0) }

abbrev pub spec_in : List ℕ → TimeSpec
spec_in bytes = spec_of (record_values time bytes)

abbrev pub spec_at : Memory → ℕ → Given TimeSpec
spec_at memory address = read_as spec_in (structure memory address time.size)

abbrev pub val_of : List ℤ → TimeVal
val_of values = record { seconds = slice_index_or values 0 (pos 0); microseconds = slice_index_or values 1 (pos 0) }

abbrev pub val_in : List ℕ → TimeVal
val_in bytes = val_of (record_values time bytes)

abbrev pub val_at : Memory → ℕ → Given TimeVal
val_at memory address = read_as val_in (structure memory address time.size)

-- What is stored of a time in nanoseconds: of more seconds than fit, the low 32 bits (own); microseconds are rounded down

abbrev pub seconds_field : ℕ → ℤ
seconds_field length = low_word (pos (length / second))

abbrev pub microseconds_field : ℕ → ℤ
microseconds_field length = pos (in_microseconds length % 1_000_000)

abbrev pub spec_bytes : ℕ → List ℕ
spec_bytes length = record_bytes time (seconds_field length ∷ pos (length % second) ∷ [])

abbrev pub val_bytes : ℕ → List ℕ
val_bytes length = record_bytes time (seconds_field length ∷ microseconds_field length ∷ [])
