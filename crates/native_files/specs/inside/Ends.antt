-- The pipes after an end of one of them is closed.
use Rattle.std.specs.Prelude.{ℕ, false, List, Option, Some, None}
use Rattle.kernel_model.specs.Pipes.{kept_pipe}
use Rattle.kernel_model.specs.State.{Pipe}
use Rattle.kernel_model.specs.Table.{with_slot}

abbrev pub closed_readers : List (Option Pipe) → ℕ → Option Pipe → List (Option Pipe)
closed_readers pipes number None = pipes
closed_readers pipes number (Some pipe) = with_slot pipes number (kept_pipe (record pipe { readers = false }))

abbrev pub closed_writers : List (Option Pipe) → ℕ → Option Pipe → List (Option Pipe)
closed_writers pipes number None = pipes
closed_writers pipes number (Some pipe) = with_slot pipes number (kept_pipe (record pipe { writers = false }))
