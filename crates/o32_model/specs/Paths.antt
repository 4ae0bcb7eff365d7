-- The paths that calls are given: a path is read up to its NUL (path_resolution(7); EFAULT and ENAMETOOLONG of open(2)). (That a path of
-- which fewer than 4096 bytes can be read, without a NUL among them, is EFAULT, is this project's own.)
use Rattle.std.specs.Prelude.{ℕ, ◌==◌, Bool, List, take, length, position, Option, Some, None, Ok, Err, if◌then◌else◌}
use Rattle.guest_space.specs.Memory.{Memory}
use Rattle.kernel_core.specs.declared.error.Errno.TheVariants.{EFAULT, ENAMETOOLONG}
use Rattle.kernel_model.specs.Came.{Given}
use Rattle.o32_model.specs.GuestBytes.{loadable}

-- how many bytes a path has at most with its NUL (PATH_MAX of limits.h)
abbrev pub path_limit : ℕ
path_limit = 4096

abbrev pub is_nul : ℕ → Bool
is_nul byte = byte == 0

-- the bytes before the first NUL, whose place is given; without one, EFAULT where the next byte can't be loaded
abbrev pub path_in : List ℕ → Option ℕ → Given (List ℕ)
path_in bytes (Some place) = Ok (take place bytes)
path_in bytes None = Err (if length bytes == path_limit then ENAMETOOLONG else EFAULT)

-- the path at an address: EFAULT where a byte before its NUL can't be loaded, ENAMETOOLONG where none of so many bytes is NUL
unfoldable pub path_at : Memory → ℕ → Given (List ℕ)
path_at memory address =
    let bytes = loadable memory address path_limit in
    path_in bytes (position is_nul bytes)
