-- Pipes (pipe(7)) and the three streams: what a read takes and a write puts, and the numbers of bytes moved.
use Rattle.std.specs.Prelude.{ℕ, ◌+◌, ◌-◌, ◌^◌, ◌==◌, min, Bool, true, false, not, ◌||◌, List, [], ◌++◌, length, take, drop, Option, Some, None, nat_le, if◌then◌else◌}
use Rattle.kernel_core.specs.NameCalls.{is_empty_list}
use Rattle.kernel_core.specs.declared.error.Errno.TheVariants.{EAGAIN, EPIPE}
use Rattle.kernel_model.specs.Came.{Came, Done, Refused, Waits}
use Rattle.kernel_model.specs.State.{Flow, Pipe}
use Rattle.kernel_model.specs.Table.{slot, with_slot}
use Rattle.kernel_model.specs.declared.stream.Stream.{Stream}
use Rattle.kernel_model.specs.declared.stream.Stream.TheVariants as streams
use Rattle.kernel_model.specs.declared.stream.Moved.{Moved}

-- the most bytes that a pipe holds
abbrev pub pipe_size : ℕ
pipe_size = 65536

-- the most bytes that are written to a pipe as a whole (PIPE_BUF of pipe(7))
abbrev pub whole_write : ℕ
whole_write = 4096

abbrev pub room : Pipe → ℕ
room pipe = pipe_size - length pipe.bytes

-- One pipe

-- the pipe after a transfer, which is none where it stays as it is, and what the transfer came to
pub record PipeStep (V : Type 0) : Type 0 where
  pub pipe : Option Pipe
  pub came : Came V

abbrev pub stays : {V : Type 0} → Came V → PipeStep V
stays came = record { pipe = None; came = came }

abbrev pub becomes : {V : Type 0} → Pipe → Came V → PipeStep V
becomes pipe came = record { pipe = Some pipe; came = came }

-- a wait without end, after so many bytes were put
abbrev pub waits_after : {V : Type 0} → ℕ → Came V
waits_after count = Waits (record { done = count; until = None })

-- A read of at most so many bytes, at least 1: what is there first. With nothing there it is at the end where there are no writers, and
-- else waits, or is EAGAIN for a description that does not wait.
abbrev pub read_pipe : Pipe → Bool → ℕ → PipeStep (List ℕ)
read_pipe pipe nonblock most =
    if not (is_empty_list pipe.bytes) then becomes (record pipe { bytes = drop most pipe.bytes }) (Done (take most pipe.bytes))
    else (if not pipe.writers then stays (Done [])
    else (if nonblock then stays (Refused EAGAIN)
    else stays (waits_after 0)))

-- these bytes are put behind those that are there
abbrev pub put : Pipe → List ℕ → Pipe
put pipe bytes = record pipe { bytes = pipe.bytes ++ bytes }

-- how many of these bytes are put where there is no room for all: none of those that go whole, and of more as many as there is room for
abbrev pub part_length : Pipe → List ℕ → ℕ
part_length pipe bytes = if nat_le (length bytes) whole_write then 0 else room pipe

-- the first so many of these bytes are put, at least 1; the rest waits, or is left for a description that does not wait
abbrev pub write_some : Pipe → Bool → List ℕ → ℕ → PipeStep ℕ
write_some pipe nonblock bytes count = becomes (put pipe (take count bytes)) (if nonblock then Done count else waits_after count)

abbrev pub write_none : Bool → PipeStep ℕ
write_none nonblock = stays (if nonblock then Refused EAGAIN else waits_after 0)

abbrev pub write_part : Pipe → Bool → List ℕ → ℕ → PipeStep ℕ
write_part pipe nonblock bytes count = if count == 0 then write_none nonblock else write_some pipe nonblock bytes count

-- A write of at least 1 byte. EPIPE where there are no readers.
abbrev pub write_pipe : Pipe → Bool → List ℕ → PipeStep ℕ
write_pipe pipe nonblock bytes =
    if not pipe.readers then stays (Refused EPIPE)
    else (if nat_le (length bytes) (room pipe) then becomes (put pipe bytes) (Done (length bytes))
    else write_part pipe nonblock bytes (part_length pipe bytes))

-- All pipes

abbrev pub pipe_at : Flow → ℕ → Option Pipe
pipe_at flow number = slot flow.pipes number

-- the pipes after a transfer at one of them
abbrev pub after_step : Flow → ℕ → Option Pipe → Flow
after_step flow number None = flow
after_step flow number (Some pipe) = record flow { pipes = with_slot flow.pipes number (Some pipe) }

-- a pipe without an open end goes
abbrev pub kept_pipe : Pipe → Option Pipe
kept_pipe pipe = if pipe.readers || pipe.writers then Some pipe else None

abbrev pub with_pipe : Flow → ℕ → Pipe → Flow
with_pipe flow number pipe = record flow { pipes = with_slot flow.pipes number (kept_pipe pipe) }

abbrev pub new_pipe : Pipe
new_pipe = record { bytes = []; readers = true; writers = true }

-- an end is closed

abbrev pub without_readers : Flow → ℕ → Option Pipe → Flow
without_readers flow number None = flow
without_readers flow number (Some pipe) = with_pipe flow number (record pipe { readers = false })

abbrev pub without_writers : Flow → ℕ → Option Pipe → Flow
without_writers flow number None = flow
without_writers flow number (Some pipe) = with_pipe flow number (record pipe { writers = false })

-- Streams

-- What a row sends to the outputs: text that the devices gain. It stands in no state.
pub record Sent : Type 0 where
  pub out : List ℕ
  pub err : List ℕ

abbrev pub nothing : Sent
nothing = record { out = []; err = [] }

abbrev pub sent_to : Stream → List ℕ → Sent
sent_to streams.Input bytes = nothing
sent_to streams.Out bytes = record nothing { out = bytes }
sent_to streams.Err bytes = record nothing { err = bytes }

-- the numbers of bytes moved stop at 2^128 - 1
abbrev pub counted : ℕ → ℕ → ℕ
counted number more = min (number + more) (2 ^ 128 - 1)

abbrev pub more_taken : Flow → ℕ → Flow
more_taken flow count = record flow { moved = record flow.moved { taken = counted flow.moved.taken count } }

abbrev pub more_moved : Stream → Moved → ℕ → Moved
more_moved streams.Input moved count = moved
more_moved streams.Out moved count = record moved { out = counted moved.out count }
more_moved streams.Err moved count = record moved { err = counted moved.err count }

abbrev pub more_sent : Flow → Stream → ℕ → Flow
more_sent flow stream count = record flow { moved = more_moved stream flow.moved count }
