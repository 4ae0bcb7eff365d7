-- What is answered of a path that a call is given: the path, EFAULT or ENAMETOOLONG (open(2)), or that memory ran out, which may be at any
-- path. (The names of the answers are this project's own.)
use Rattle.std.specs.Prelude.{◌≡◌, ℕ, List, Result, Ok, Err}
use Rattle.kernel_core.specs.declared.error.Errno.TheVariants.{EFAULT, ENAMETOOLONG}
use Rattle.kernel_model.specs.Came.{Given}
use Rattle.bridge_mem.specs.declared.paths.PathError.{PathError}
use Rattle.bridge_mem.specs.declared.paths.PathError.TheVariants.{Fault, TooLong, NoMemory}

abbrev pub IsPathAnswer : Given (List ℕ) → Result (List ℕ) PathError → Type 0
IsPathAnswer path (Ok bytes) = path ≡ Ok bytes
IsPathAnswer path (Err Fault) = path ≡ Err EFAULT
IsPathAnswer path (Err TooLong) = path ≡ Err ENAMETOOLONG
IsPathAnswer path (Err NoMemory) = Unit {0}
