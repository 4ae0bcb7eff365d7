-- How many bytes a transfer moves at most.
use Rattle.std.specs.Prelude.{ℕ, min, ◌==◌, Result, Ok, Err, if◌then◌else◌}
use Rattle.kernel_core.specs.declared.error.Errno.{Errno}
use Rattle.kernel_core.specs.declared.error.Errno.TheVariants.{EFAULT}
use Rattle.kernel_model.specs.Came.{Given}
use Rattle.kernel_model.specs.Transfers.{transfer_limit}

-- the number, 0 where none is asked for, or what is wrong
abbrev pub most_of : Given ℕ → ℕ → Result ℕ Errno
most_of (Err error) accessible = Err error
most_of (Ok count) accessible =
    if count == 0 then Ok 0
    else (if accessible == 0 then Err EFAULT else Ok (min (min count accessible) transfer_limit))
