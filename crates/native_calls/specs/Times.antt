-- Times in host memory (timespec(3), timeval(3)): seconds, and nanoseconds or microseconds.
use Rattle.std.specs.Prelude.{ℕ, ◌/◌, ◌%◌, ℤ, pos, List, [], ◌∷◌, slice_index_or}
use Rattle.kernel_model.specs.Came.{Given}
use Rattle.kernel_model.specs.Clock.{second, in_microseconds}
use Rattle.kernel_model.specs.declared.time.TimeSpec.{TimeSpec}
use Rattle.kernel_model.specs.declared.time.TimeVal.{TimeVal}
use Rattle.layouts.specs.Native as native
use Rattle.layouts.specs.Shape.{record_bytes, record_values}
use Rattle.native_calls.specs.HostBytes.{structure, read_as}

-- Reading

abbrev pub time_of : List ℤ → TimeSpec
time_of values = record { seconds = slice_index_or values 0 (pos 0); nanoseconds = slice_index_or values 1 (pos 0) }

abbrev pub time_in : List ℕ → TimeSpec
time_in bytes = time_of (record_values native.time bytes)

abbrev pub time_at : List ℕ → ℕ → Given TimeSpec
time_at memory address = read_as time_in (structure memory address native.time.size)

-- the microseconds that two fields are
abbrev pub micro_time_of : List ℤ → TimeVal
micro_time_of values = record { seconds = slice_index_or values 0 (pos 0); microseconds = slice_index_or values 1 (pos 0) }

-- Writing a time in nanoseconds

abbrev pub time_bytes : ℕ → List ℕ
time_bytes time = record_bytes native.time (pos (time / second) ∷ pos (time % second) ∷ [])

-- in microseconds, rounded down
abbrev pub micro_time_values : ℕ → List ℤ
micro_time_values time = let all = in_microseconds time in pos (all / 1_000_000) ∷ pos (all % 1_000_000) ∷ []
