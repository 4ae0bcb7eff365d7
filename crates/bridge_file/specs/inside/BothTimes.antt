-- The two times of utimensat(2), in host memory and in the program's. (The form is this project's own.)
use Rattle.std.specs.Prelude.{◌≡◌, ℕ, List, [], ◌∷◌, Option, Some, None, option_map, Result, Ok, Err}
use Rattle.guest_space.specs.Memory.{Memory}
use Rattle.kernel_core.specs.declared.error.Errno.{Errno}
use Rattle.kernel_model.specs.Came.{Given, given_or_none}
use Rattle.kernel_model.specs.NodeRows.{Times}
use Rattle.layouts.specs.Native.{itimerval}
use Rattle.layouts.specs.Shape.{record_bytes}
use Rattle.native_calls.specs.HostBytes as host
use Rattle.native_calls.specs.Nodes as native
use Rattle.native_calls.specs.Paths as native_paths
use Rattle.o32_model.specs.GuestBytes as guest
use Rattle.o32_model.specs.Paths as guest_paths
use Rattle.bridge_paths.specs.HostPaths.{HasPath}
use Rattle.bridge_file.specs.declared.times.BothTimes.{BothTimes}

-- as the kernel's row has them
abbrev pub times_of : BothTimes → Times
times_of times = record { access = times.access; modified = times.modified }

-- as host memory has them, one behind the other
abbrev pub both_bytes : BothTimes → List ℕ
both_bytes times =
    record_bytes itimerval (times.access.seconds ∷ times.access.nanoseconds ∷ times.modified.seconds ∷ times.modified.nanoseconds ∷ [])

abbrev pub times_read : Result (Option BothTimes) Errno → Given (Option Times)
times_read (Ok times) = Ok (option_map times_of times)
times_read (Err error) = Err error

-- a path that may be null, as the program gives it, and as host memory has it
abbrev pub path_or_none : Memory → ℕ → Given (Option (List ℕ))
path_or_none memory address = given_or_none (guest.unless_null address (guest_paths.path_at memory address))

abbrev pub host_path_or_none : List ℕ → ℕ → Given (Option (List ℕ))
host_path_or_none memory address = given_or_none (host.unless_null address (native_paths.path_at memory address))

abbrev pub host_times_or_none : List ℕ → ℕ → Given (Option Times)
host_times_or_none memory address = given_or_none (host.unless_null address (native.times_at memory address))

-- a path that may be null stands in host memory at an address, which is 0 where it is
abbrev pub HasPathOrNone : List ℕ → ℕ → Option (List ℕ) → Type 0
HasPathOrNone memory address None = address ≡ 0
HasPathOrNone memory address (Some path) = HasPath memory address path
