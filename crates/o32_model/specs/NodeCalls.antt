-- The calls on the node that a path or a descriptor names: access(2), chmod(2), utimensat(2), truncate(2), fsync(2); on the working directory
-- and the umask: chdir(2), getcwd(2), umask(2).
use Rattle.std.specs.Prelude.{ℕ, ◌*◌, ℤ, Bool, not, List, [], ◌∷◌, ◌++◌, drop, Option, option_map}
use Rattle.std.specs.Int.{w64, cast_signed}
use Rattle.guest_space.specs.Memory.{Memory}
use Rattle.kernel_model.specs.Came.{Given, told_as, told_zero}
use Rattle.kernel_model.specs.ContentRows.{sync}
use Rattle.kernel_model.specs.NodeRows.{Times, access, change_mode, change_open_mode, set_times, truncate, truncate_open, change_directory, change_to_open, working_directory, set_umask}
use Rattle.kernel_model.specs.Paths.{Base, Working}
use Rattle.kernel_model.specs.State.{Kernel}
use Rattle.kernel_model.specs.Whole.{on_files, marked}
use Rattle.layouts.specs.O32.{time}
use Rattle.o32_calls.specs.Numbers.{node_number, size_number, text_number}
use Rattle.o32_calls.specs.declared.names.NodeCall.TheVariants.{Chdir, Chmod, Access, Umask, Fchmod, Fsync, Fchdir, Fdatasync, Fchmodat, Faccessat, Utimensat}
use Rattle.o32_calls.specs.declared.names.SizeCall.TheVariants.{Truncate, Ftruncate, Truncate64, Ftruncate64}
use Rattle.o32_calls.specs.declared.names.TextCall.TheVariants.{Getcwd}
use Rattle.o32_model.specs.GuestBytes.{structure, read_as, unless_null}
use Rattle.o32_model.specs.PathArguments.{base, nofollow_flag, one_flag}
use Rattle.o32_model.specs.Paths.{path_at}
use Rattle.o32_model.specs.Step.{Guest, O32Step, O32Row, gives}
use Rattle.o32_model.specs.Results.{stores_text}
use Rattle.o32_model.specs.Times.{spec_in}
use Rattle.o32_model.specs.Words.{argument, signed_argument, pair}

-- Access and modes

unfoldable pub access_row : Kernel → Guest → Base → ℕ → ℕ → List ℕ → O32Step
access_row kernel guest from address mode left =
    gives guest (told_zero (on_files kernel (access kernel.files from (path_at guest.memory address) mode))) left

unfoldable pub chmod_row : Kernel → Guest → Base → ℕ → ℕ → List ℕ → O32Step
chmod_row kernel guest from address mode left =
    gives guest (told_zero (marked kernel (λ files now. change_mode files now from (path_at guest.memory address) mode))) left

unfoldable pub fchmod_row : Kernel → Guest → ℕ → ℕ → List ℕ → O32Step
fchmod_row kernel guest fd mode left =
    gives guest (told_zero (marked kernel (λ files now. change_open_mode files now fd mode))) left

-- Times

-- the time of access and then that of modification
abbrev pub times_in : List ℕ → Times
times_in bytes = record { access = spec_in bytes; modified = spec_in (drop time.size bytes) }

abbrev pub times_size : ℕ
times_size = 2 * time.size

abbrev pub times_at : Memory → ℕ → Option (Given Times)
times_at memory address = unless_null address (read_as times_in (structure memory address times_size))

-- whether a last link is followed; none where there are other flags
abbrev pub follows_by : ℕ → Option Bool
follows_by flags = option_map not (one_flag nofollow_flag flags)

unfoldable pub utimensat_row : Kernel → Guest → Base → ℕ → ℕ → ℕ → List ℕ → O32Step
utimensat_row kernel guest from address times flags left =
    gives guest
    (told_zero
    (marked kernel (λ files now.
    set_times files now from (unless_null address (path_at guest.memory address)) (times_at guest.memory times) (follows_by flags)))) left

-- Sizes, as signed numbers (off_t, loff_t)

unfoldable pub truncate_row : Kernel → Guest → ℕ → ℤ → List ℕ → O32Step
truncate_row kernel guest address size left =
    gives guest (told_zero (marked kernel (λ files now. truncate files now Working (path_at guest.memory address) size))) left

unfoldable pub ftruncate_row : Kernel → Guest → ℕ → ℤ → List ℕ → O32Step
ftruncate_row kernel guest fd size left =
    gives guest (told_zero (marked kernel (λ files now. truncate_open files now fd size))) left

-- the third argument and the fourth as one of 64 bits
abbrev pub wide_size : Guest → ℤ
wide_size guest = cast_signed w64 (pair (argument guest.words 2) (argument guest.words 3))

-- Syncing, with the data alone too

unfoldable pub sync_row : Kernel → Guest → ℕ → List ℕ → O32Step
sync_row kernel guest fd left = gives guest (told_zero (on_files kernel (sync kernel.files fd))) left

-- The working directory and the umask

unfoldable pub chdir_row : Kernel → Guest → ℕ → List ℕ → O32Step
chdir_row kernel guest address left =
    gives guest (told_zero (on_files kernel (change_directory kernel.files (path_at guest.memory address)))) left

unfoldable pub fchdir_row : Kernel → Guest → ℕ → List ℕ → O32Step
fchdir_row kernel guest fd left = gives guest (told_zero (on_files kernel (change_to_open kernel.files fd))) left

-- the path with its NUL, which the result counts
unfoldable pub getcwd_row : Kernel → Guest → ℕ → ℕ → List ℕ → O32Step
getcwd_row kernel guest buffer size left =
    stores_text guest buffer (told_as (λ path. path ++ 0 ∷ []) (on_files kernel (working_directory kernel.files size))) left

unfoldable pub umask_row : Kernel → Guest → ℕ → List ℕ → O32Step
umask_row kernel guest mask left = gives guest (on_files kernel (set_umask kernel.files mask)) left

-- The numbers (Linux arch/mips/include/uapi/asm/unistd.h, the o32 table). The second argument of truncate64 and ftruncate64 is not used, so
-- that the size has an even place among them.
abbrev pub node_calls : List O32Row
node_calls =
    record { number = node_number Chdir; step = λ kernel guest. chdir_row kernel guest (argument guest.words 0) }
    ∷ record { number = node_number Chmod; step = λ kernel guest. chmod_row kernel guest Working (argument guest.words 0) (argument guest.words 1) }
    ∷ record { number = node_number Access; step = λ kernel guest. access_row kernel guest Working (argument guest.words 0) (argument guest.words 1) }
    ∷ record { number = node_number Umask; step = λ kernel guest. umask_row kernel guest (argument guest.words 0) }
    ∷ record { number = size_number Truncate; step = λ kernel guest. truncate_row kernel guest (argument guest.words 0) (signed_argument guest.words 1) }
    ∷ record { number = size_number Ftruncate; step = λ kernel guest. ftruncate_row kernel guest (argument guest.words 0) (signed_argument guest.words 1) }
    ∷ record { number = node_number Fchmod; step = λ kernel guest. fchmod_row kernel guest (argument guest.words 0) (argument guest.words 1) }
    ∷ record { number = node_number Fsync; step = λ kernel guest. sync_row kernel guest (argument guest.words 0) }
    ∷ record { number = node_number Fchdir; step = λ kernel guest. fchdir_row kernel guest (argument guest.words 0) }
    ∷ record { number = node_number Fdatasync; step = λ kernel guest. sync_row kernel guest (argument guest.words 0) }
    ∷ record { number = text_number Getcwd; step = λ kernel guest. getcwd_row kernel guest (argument guest.words 0) (argument guest.words 1) }
    ∷ record { number = size_number Truncate64; step = λ kernel guest. truncate_row kernel guest (argument guest.words 0) (wide_size guest) }
    ∷ record { number = size_number Ftruncate64; step = λ kernel guest. ftruncate_row kernel guest (argument guest.words 0) (wide_size guest) }
    ∷ record { number = node_number Fchmodat; step = λ kernel guest. chmod_row kernel guest (base (argument guest.words 0)) (argument guest.words 1) (argument guest.words 2) }
    ∷ record { number = node_number Faccessat; step = λ kernel guest. access_row kernel guest (base (argument guest.words 0)) (argument guest.words 1) (argument guest.words 2) }
    ∷ record { number = node_number Utimensat; step = λ kernel guest. utimensat_row kernel guest (base (argument guest.words 0)) (argument guest.words 1) (argument guest.words 2) (argument guest.words 3) }
    ∷ []
