-- The calls on the node that a path or a descriptor names: truncate(2), access(2), chmod(2), stat(2), utimensat(2), and on the working directory
-- and the mode of new nodes: chdir(2), getcwd(2), umask(2).
use Rattle.std.specs.Prelude.{ℕ, ◌*◌, ℤ, Bool, not, List, [], ◌∷◌, ◌++◌, drop, Option, Some, None, if◌then◌else◌}
use Rattle.kernel_core.specs.Bits.{has}
use Rattle.kernel_model.specs.Came.{Given, told_as, told_zero}
use Rattle.kernel_model.specs.NodeRows.{StatusFlags, Times, status_at_path, access, change_mode, change_open_mode, set_times, truncate, truncate_open, change_directory, change_to_open, working_directory, set_umask}
use Rattle.kernel_model.specs.Paths.{Working}
use Rattle.kernel_model.specs.State.{Kernel}
use Rattle.kernel_model.specs.Whole.{on_files, marked}
use Rattle.layouts.specs.Native.{time}
use Rattle.native_calls.specs.Arguments.{argument, word, offset}
use Rattle.native_calls.specs.Flags.{are_listed, only_flag}
use Rattle.native_calls.specs.HostBytes.{structure, read_as, unless_null}
use Rattle.native_calls.specs.Paths.{path_at, base_of}
use Rattle.native_calls.specs.Status.{status_bytes}
use Rattle.native_calls.specs.Step.{NativeStep, NativeCall, gives, stores, counts}
use Rattle.native_calls.specs.Times.{time_in}

-- Sizes

unfoldable pub truncate_row : Kernel → List ℕ → ℕ → ℤ → List ℕ → NativeStep
truncate_row kernel memory path size left =
    gives memory (told_zero (marked kernel (λ files now. truncate files now Working (path_at memory path) size))) left

unfoldable pub ftruncate_row : Kernel → List ℕ → ℕ → ℤ → List ℕ → NativeStep
ftruncate_row kernel memory fd size left =
    gives memory (told_zero (marked kernel (λ files now. truncate_open files now fd size))) left

-- Access and modes

unfoldable pub faccessat_row : Kernel → List ℕ → ℕ → ℕ → ℕ → List ℕ → NativeStep
faccessat_row kernel memory directory path mode left =
    gives memory (told_zero (on_files kernel (access kernel.files (base_of directory) (path_at memory path) mode))) left

unfoldable pub fchmod_row : Kernel → List ℕ → ℕ → ℕ → List ℕ → NativeStep
fchmod_row kernel memory fd mode left =
    gives memory (told_zero (marked kernel (λ files now. change_open_mode files now fd mode))) left

unfoldable pub fchmodat_row : Kernel → List ℕ → ℕ → ℕ → ℕ → List ℕ → NativeStep
fchmodat_row kernel memory directory path mode left =
    gives memory (told_zero (marked kernel (λ files now. change_mode files now (base_of directory) (path_at memory path) mode))) left

-- Status

-- AT_SYMLINK_NOFOLLOW, AT_NO_AUTOMOUNT, which has no effect, and AT_EMPTY_PATH (Linux include/uapi/linux/fcntl.h)

abbrev pub nofollow_flag : ℕ
nofollow_flag = 0x100

abbrev pub no_automount_flag : ℕ
no_automount_flag = 0x800

abbrev pub empty_path_flag : ℕ
empty_path_flag = 0x1000

-- none where there are other flags
abbrev pub status_flags : ℕ → Option StatusFlags
status_flags flags =
    if are_listed (nofollow_flag ∷ no_automount_flag ∷ empty_path_flag ∷ []) flags
    then Some (record { follow = not (has flags nofollow_flag); empty = has flags empty_path_flag })
    else None

unfoldable pub newfstatat_row : Kernel → List ℕ → ℕ → ℕ → ℕ → ℕ → List ℕ → NativeStep
newfstatat_row kernel memory directory path address flags left =
    stores memory address
    (told_as status_bytes (on_files kernel (status_at_path kernel.files (base_of directory) (path_at memory path) (status_flags flags)))) left

-- Times

-- the time of access and then that of modification
abbrev pub times_in : List ℕ → Times
times_in bytes = record { access = time_in bytes; modified = time_in (drop time.size bytes) }

abbrev pub times_at : List ℕ → ℕ → Given Times
times_at memory address = read_as times_in (structure memory address (2 * time.size))

-- whether a last link is followed; none where there are flags other than AT_SYMLINK_NOFOLLOW

abbrev pub unless_set : Option Bool → Option Bool
unless_set None = None
unless_set (Some nofollow) = Some (not nofollow)

abbrev pub follow_of : ℕ → Option Bool
follow_of flags = unless_set (only_flag nofollow_flag flags)

unfoldable pub utimensat_row : Kernel → List ℕ → ℕ → ℕ → ℕ → ℕ → List ℕ → NativeStep
utimensat_row kernel memory directory path times flags left =
    gives memory
    (told_zero (marked kernel (λ files now.
    set_times files now (base_of directory) (unless_null path (path_at memory path)) (unless_null times (times_at memory times))
    (follow_of flags)))) left

-- The working directory, and the mode of new nodes

unfoldable pub chdir_row : Kernel → List ℕ → ℕ → List ℕ → NativeStep
chdir_row kernel memory path left = gives memory (told_zero (on_files kernel (change_directory kernel.files (path_at memory path)))) left

unfoldable pub fchdir_row : Kernel → List ℕ → ℕ → List ℕ → NativeStep
fchdir_row kernel memory fd left = gives memory (told_zero (on_files kernel (change_to_open kernel.files fd))) left

-- a path and its NUL
abbrev pub with_nul : List ℕ → List ℕ
with_nul path = path ++ 0 ∷ []

unfoldable pub getcwd_row : Kernel → List ℕ → ℕ → ℕ → List ℕ → NativeStep
getcwd_row kernel memory buffer size left =
    counts memory buffer (told_as with_nul (on_files kernel (working_directory kernel.files size))) left

unfoldable pub umask_row : Kernel → List ℕ → ℕ → List ℕ → NativeStep
umask_row kernel memory umask left = gives memory (on_files kernel (set_umask kernel.files umask)) left

-- The numbers (Linux include/uapi/asm-generic/unistd.h)
abbrev pub node_calls : List NativeCall
node_calls =
    record { number = 17; step = λ args kernel memory. getcwd_row kernel memory (argument args 0) (argument args 1) }
    ∷ record { number = 45; step = λ args kernel memory. truncate_row kernel memory (argument args 0) (offset args 1) }
    ∷ record { number = 46; step = λ args kernel memory. ftruncate_row kernel memory (word args 0) (offset args 1) }
    ∷ record { number = 48; step = λ args kernel memory. faccessat_row kernel memory (word args 0) (argument args 1) (word args 2) }
    ∷ record { number = 49; step = λ args kernel memory. chdir_row kernel memory (argument args 0) }
    ∷ record { number = 50; step = λ args kernel memory. fchdir_row kernel memory (word args 0) }
    ∷ record { number = 52; step = λ args kernel memory. fchmod_row kernel memory (word args 0) (word args 1) }
    ∷ record { number = 53; step = λ args kernel memory. fchmodat_row kernel memory (word args 0) (argument args 1) (word args 2) }
    ∷ record { number = 79; step = λ args kernel memory. newfstatat_row kernel memory (word args 0) (argument args 1) (argument args 2) (word args 3) }
    ∷ record { number = 88; step = λ args kernel memory. utimensat_row kernel memory (word args 0) (argument args 1) (argument args 2) (word args 3) }
    ∷ record { number = 166; step = λ args kernel memory. umask_row kernel memory (word args 0) }
    ∷ []
