-- The calls on names: open(2), mkdir(2), unlink(2), symlink(2), link(2), rename(2), readlink(2). Each path comes with the directory from which
-- it leads, a descriptor or AT_FDCWD.
use Rattle.std.specs.Prelude.{ℕ, ℤ, List, [], ◌∷◌, None}
use Rattle.kernel_model.specs.Came.{told_zero}
use Rattle.kernel_model.specs.NameRows.{make_directory, remove_name, make_link, link, rename, read_link}
use Rattle.kernel_model.specs.Opening.{open_file}
use Rattle.kernel_model.specs.State.{Kernel}
use Rattle.kernel_model.specs.Whole.{on_files, marked}
use Rattle.native_calls.specs.Arguments.{argument, word, signed_word}
use Rattle.native_calls.specs.Flags.{only_flag}
use Rattle.native_calls.specs.Paths.{path_at, base_of}
use Rattle.native_calls.specs.Step.{NativeStep, NativeCall, gives, counts}
use Rattle.number_tables.specs.OpenNumbers.{open_of_native}

-- Opening. Flags that are not listed are EINVAL (own). O_LARGEFILE is kept, and no size needs it.
unfoldable pub openat_row : Kernel → List ℕ → ℕ → ℕ → ℕ → ℕ → List ℕ → NativeStep
openat_row kernel memory directory path flags mode left =
    gives memory
    (marked kernel (λ files now. open_file files None now (base_of directory) (path_at memory path) (open_of_native flags) mode)) left

-- Making and removing

unfoldable pub mkdirat_row : Kernel → List ℕ → ℕ → ℕ → ℕ → List ℕ → NativeStep
mkdirat_row kernel memory directory path mode left =
    gives memory (told_zero (marked kernel (λ files now. make_directory files now (base_of directory) (path_at memory path) mode))) left

unfoldable pub symlinkat_row : Kernel → List ℕ → ℕ → ℕ → ℕ → List ℕ → NativeStep
symlinkat_row kernel memory target directory path left =
    gives memory
    (told_zero (marked kernel (λ files now. make_link files now (path_at memory target) (base_of directory) (path_at memory path)))) left

-- AT_REMOVEDIR of unlinkat(2) (Linux include/uapi/linux/fcntl.h)
abbrev pub removedir_flag : ℕ
removedir_flag = 0x200

unfoldable pub unlinkat_row : Kernel → List ℕ → ℕ → ℕ → ℕ → List ℕ → NativeStep
unlinkat_row kernel memory directory path flags left =
    gives memory
    (told_zero (marked kernel (λ files now. remove_name files now (base_of directory) (path_at memory path) (only_flag removedir_flag flags)))) left

-- Linking and renaming

-- AT_SYMLINK_FOLLOW of linkat(2) (Linux include/uapi/linux/fcntl.h)
abbrev pub follow_flag : ℕ
follow_flag = 0x400

unfoldable pub linkat_row : Kernel → List ℕ → ℕ → ℕ → ℕ → ℕ → ℕ → List ℕ → NativeStep
linkat_row kernel memory old_directory old_path new_directory new_path flags left =
    gives memory
    (told_zero (marked kernel (λ files now.
    link files now (base_of old_directory) (path_at memory old_path) (base_of new_directory) (path_at memory new_path)
    (only_flag follow_flag flags)))) left

unfoldable pub renameat_row : Kernel → List ℕ → ℕ → ℕ → ℕ → ℕ → List ℕ → NativeStep
renameat_row kernel memory old_directory old_path new_directory new_path left =
    gives memory
    (told_zero (marked kernel (λ files now.
    rename files now (base_of old_directory) (path_at memory old_path) (base_of new_directory) (path_at memory new_path)))) left

-- Reading a link: its text up to the size, without a NUL
unfoldable pub readlinkat_row : Kernel → List ℕ → ℕ → ℕ → ℕ → ℤ → List ℕ → NativeStep
readlinkat_row kernel memory directory path buffer size left =
    counts memory buffer (on_files kernel (read_link kernel.files (base_of directory) (path_at memory path) size)) left

-- The numbers (Linux include/uapi/asm-generic/unistd.h)
abbrev pub name_calls : List NativeCall
name_calls =
    record { number = 34; step = λ args kernel memory. mkdirat_row kernel memory (word args 0) (argument args 1) (word args 2) }
    ∷ record { number = 35; step = λ args kernel memory. unlinkat_row kernel memory (word args 0) (argument args 1) (word args 2) }
    ∷ record { number = 36; step = λ args kernel memory. symlinkat_row kernel memory (argument args 0) (word args 1) (argument args 2) }
    ∷ record {
      number = 37;
      step = λ args kernel memory. linkat_row kernel memory (word args 0) (argument args 1) (word args 2) (argument args 3) (word args 4);
    }
    ∷ record { number = 38; step = λ args kernel memory. renameat_row kernel memory (word args 0) (argument args 1) (word args 2) (argument args 3) }
    ∷ record { number = 56; step = λ args kernel memory. openat_row kernel memory (word args 0) (argument args 1) (word args 2) (word args 3) }
    ∷ record { number = 78; step = λ args kernel memory. readlinkat_row kernel memory (word args 0) (argument args 1) (argument args 2) (signed_word args 3) }
    ∷ []
