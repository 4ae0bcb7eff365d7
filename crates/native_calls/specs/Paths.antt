-- The paths that calls are given, and where they begin (path_resolution(7), openat(2)). (Which error comes where memory ends before the NUL is
-- this project's own.)
use Rattle.std.specs.Prelude.{ℕ, ◌-◌, ◌^◌, ◌==◌, Bool, List, take, length, position, Option, Some, None, Ok, Err, if◌then◌else◌}
use Rattle.kernel_core.specs.declared.error.Errno.TheVariants.{EFAULT, ENAMETOOLONG}
use Rattle.kernel_model.specs.Came.{Given}
use Rattle.kernel_model.specs.Paths.{Base, Working, Descriptor}
use Rattle.native_calls.specs.HostBytes.{loadable}

-- how many bytes a path has at most with its NUL (PATH_MAX of Linux include/uapi/linux/limits.h)
abbrev pub path_limit : ℕ
path_limit = 4096

abbrev pub is_nul : ℕ → Bool
is_nul byte = byte == 0

-- the bytes before the first NUL, whose place is given; without one, EFAULT where memory ends before so many bytes
abbrev pub path_in : List ℕ → Option ℕ → Given (List ℕ)
path_in bytes (Some place) = Ok (take place bytes)
path_in bytes None = Err (if length bytes == path_limit then ENAMETOOLONG else EFAULT)

-- the path at an address: EFAULT where a byte before its NUL is not there, ENAMETOOLONG where none of so many bytes is NUL
unfoldable pub path_at : List ℕ → ℕ → Given (List ℕ)
path_at memory address =
    let bytes = loadable memory address path_limit in
    path_in bytes (position is_nul bytes)

-- AT_FDCWD, -100 as an int (Linux include/uapi/linux/fcntl.h)
abbrev pub at_fdcwd : ℕ
at_fdcwd = 2 ^ 32 - 100

-- where a path begins that does not begin with a slash
abbrev pub base_of : ℕ → Base
base_of directory = if directory == at_fdcwd then Working else Descriptor directory
