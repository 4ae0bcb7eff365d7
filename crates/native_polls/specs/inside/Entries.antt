-- Entries of poll(2) in host memory, one after the other. (The forms are this project's own.)
use Rattle.std.specs.Prelude.{ℕ, ◌-◌, ◌*◌, List, take, drop, Ok, Err}
use Rattle.host_mem.specs.Memory.{first_address}
use Rattle.kernel_model.specs.Came.{Given}
use Rattle.kernel_model.specs.Readiness.{PollEntry, returned, told_at}
use Rattle.kernel_model.specs.Shared.{PollSet}
use Rattle.kernel_model.specs.State.{Files}
use Rattle.layouts.specs.Shape.{record_values}
use Rattle.native_calls.specs.Polls.{entries_in, entry_of, pollfd, polled}

-- what is told of the entry that some bytes begin with
abbrev pub told_in : Files → List ℕ → PollSet
told_in files bytes = let entry = entry_of (record_values pollfd bytes) in told_at files entry.events entry.fd

-- the bytes of so many entries from an address on
abbrev pub entry_bytes : List ℕ → ℕ → ℕ → List ℕ
entry_bytes memory address count = take (count * 8) (drop (address - first_address) memory)

-- memory with what is told of so many entries from an address on
abbrev pub told_from : Files → List ℕ → ℕ → ℕ → List ℕ
told_from files memory address count =
    polled address memory (returned files (entries_in count (entry_bytes memory address count)))

-- the same, where they are there
abbrev pub told_if : Files → ℕ → List ℕ → Given (List PollEntry) → List ℕ
told_if files address memory (Err error) = memory
told_if files address memory (Ok entries) = polled address memory (returned files entries)
