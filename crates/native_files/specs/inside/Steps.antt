-- Pipes by their numbers, as steps of `kernel_model`.
use Rattle.std.specs.Prelude.{ℕ, ⊤, Bool, ◌≡◌, List, [], length, Option, Some, None, Result, Ok, Err}
use Rattle.kernel_core.specs.declared.core_error.CoreError.{CoreError}
use Rattle.kernel_core.specs.declared.core_error.CoreError.TheVariants as errors
use Rattle.kernel_core.specs.declared.core_error.Stop.TheVariants as stops
use Rattle.kernel_core.specs.declared.error.Errno.{Errno}
use Rattle.kernel_core.specs.declared.error.Errno.TheVariants.{EBADF}
use Rattle.kernel_model.specs.Came.{Came, Done, Refused, Waits}
use Rattle.kernel_model.specs.Pipes.{PipeStep, more_sent, stays, read_pipe, write_pipe}
use Rattle.kernel_model.specs.State.{Files, Pipe}
use Rattle.kernel_model.specs.Table.{with_slot}
use Rattle.kernel_model.specs.declared.stream.Stream.{Stream}
use Rattle.native_files.specs.declared.progress.Progress.{Progress}
use Rattle.native_files.specs.declared.progress.Progress.TheVariants as progress
use Rattle.outside.specs.Count.{Rose}
use Rattle.outside.specs.Output.{GainsText, GainsBetween}

-- what a transfer that can't end early comes to
abbrev pub reached : Result Progress Errno → Came ℕ
reached (Ok (progress.Done count)) = Done count
reached (Ok (progress.Waits wake)) = Waits wake
reached (Err error) = Refused error

-- it does not end early
abbrev pub IsSure : Result Progress CoreError → Type 0
IsSure (Ok progress) = ⊤
IsSure (Err (errors.Refused error)) = ⊤
IsSure (Err (errors.Stop stop)) = ⊥

-- a read of the pipe, where it is there
abbrev pub read_at_end : Bool → ℕ → Option Pipe → PipeStep (List ℕ)
read_at_end nonblock most None = stays (Refused EBADF)
read_at_end nonblock most (Some pipe) = read_pipe pipe nonblock most

-- a write to the pipe, where it is there
abbrev pub write_at_end : Bool → List ℕ → Option Pipe → PipeStep ℕ
write_at_end nonblock bytes None = stays (Refused EBADF)
write_at_end nonblock bytes (Some pipe) = write_pipe pipe nonblock bytes

-- the pipe after a step
abbrev pub piped : Pipe → Option Pipe → Pipe
piped pipe None = pipe
piped pipe (Some after) = after

-- the pipes after a step at one of them
abbrev pub stepped : List (Option Pipe) → ℕ → Option Pipe → List (Option Pipe)
stepped pipes number None = pipes
stepped pipes number (Some pipe) = with_slot pipes number (Some pipe)

-- All bytes are sent to the device of a stream and counted, or a first part is sent: the texts are the device's.
abbrev pub SendsSo : Files → Stream → List ℕ → Result Progress CoreError → Files → Option (List ℕ) → Option (List ℕ) → Type 0
SendsSo files stream bytes (Ok (progress.Done count)) state before after =
    (count ≡ length bytes) × (state ≡ record files { flow = more_sent files.flow stream (length bytes) }) × GainsText before after bytes
SendsSo files stream bytes (Ok (progress.Waits wake)) state before after = ⊥
SendsSo files stream bytes (Err (errors.Refused error)) state before after = ⊥
SendsSo files stream bytes (Err (errors.Stop stop)) state before after = GainsBetween before after [] bytes

-- it stops where memory ran out, or where the device counted a fault, which it does in no other call
abbrev pub SinkStops : Result Progress CoreError → ℕ → ℕ → Type 0
SinkStops (Ok progress) before after = after ≡ before
SinkStops (Err (errors.Refused error)) before after = after ≡ before
SinkStops (Err (errors.Stop stops.NoMemory)) before after = after ≡ before
SinkStops (Err (errors.Stop stops.ReadFault)) before after = ⊥
SinkStops (Err (errors.Stop stops.WriteFault)) before after = Rose before after
