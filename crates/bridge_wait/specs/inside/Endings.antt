-- What a call comes to that changes the program's memory alone, by what it was shown. (The form is this project's own.)
use Rattle.std.specs.Prelude.{ℕ, Bool, List, ◌++◌, replicate, Option, Some, None, Result, Ok, Err, if◌then◌else◌}
use Rattle.bridge_log.specs.Storing.{Ending, ending, fails, stores, stores_unless_null}
use Rattle.byteorder.specs.Endian.{big_bytes}
use Rattle.guest_space.specs.Memory.{Memory}
use Rattle.kernel_core.specs.declared.error.Errno.TheVariants.{EFAULT, EINTR, EINVAL}
use Rattle.kernel_model.specs.Shared.{Errno}
use Rattle.o32_model.specs.Results.{Piece, all_fit, piece_unless_null, value_if, with_pieces}
use Rattle.o32_model.specs.declared.wait.Close.{Close}
use Rattle.o32_model.specs.declared.wait.Close.TheVariants as closes
use Rattle.bridge_wait.specs.declared.clock_times.ClockTime.{ClockTime}
use Rattle.bridge_wait.specs.inside.Shown.{spec_bytes, val_bytes}

-- clock_gettime(2)
abbrev pub time_ending : Memory → ℕ → Result ClockTime Errno → Ending
time_ending memory address (Err error) = fails memory error
time_ending memory address (Ok time) = stores memory address (spec_bytes time) 0

-- clock_getres(2)
abbrev pub resolution_ending : Memory → ℕ → Option ClockTime → Ending
resolution_ending memory address None = fails memory EINVAL
resolution_ending memory address (Some time) = stores_unless_null memory address (spec_bytes time) 0

-- time(2)
abbrev pub seconds_ending : Memory → ℕ → Result ClockTime Errno → Ending
seconds_ending memory address (Err error) = fails memory error
seconds_ending memory address (Ok time) = stores_unless_null memory address (big_bytes 4 time.seconds) time.seconds

-- gettimeofday(2)

abbrev pub day_pieces : ℕ → ℕ → ClockTime → List Piece
day_pieces value zone time = piece_unless_null value (val_bytes time) ++ piece_unless_null zone (replicate 8 0)

abbrev pub pieces_ending : Memory → List Piece → Ending
pieces_ending memory pieces = ending (value_if (all_fit memory pieces) 0) (with_pieces memory pieces)

abbrev pub day_ending : Memory → ℕ → ℕ → Result ClockTime Errno → Ending
day_ending memory value zone (Err error) = fails memory error
day_ending memory value zone (Ok time) = pieces_ending memory (day_pieces value zone time)

-- a sleep that a handler ended, by whether what is left of it was stored
abbrev pub interrupted_if : Bool → Close
interrupted_if stored = closes.Error (if stored then EINTR else EFAULT)
