-- The calls on names: mkdir(2), rmdir(2), unlink(2), link(2), symlink(2), rename(2), readlink(2), and their forms with descriptors of
-- directories.
use Rattle.std.specs.Prelude.{ℕ, ℤ, Bool, true, false, List, [], ◌∷◌, Option, Some}
use Rattle.kernel_core.specs.declared.error.Errno.TheVariants.{EFAULT}
use Rattle.kernel_model.specs.Came.{Did, with_some, told_zero}
use Rattle.kernel_model.specs.NameRows.{make_directory, remove_name, link, make_link, rename, read_link}
use Rattle.kernel_model.specs.Paths.{Base, Working}
use Rattle.kernel_model.specs.State.{Kernel}
use Rattle.kernel_model.specs.Whole.{on_files, marked}
use Rattle.o32_calls.specs.Numbers.{name_number, text_number}
use Rattle.o32_calls.specs.declared.names.NameCall.TheVariants.{Link, Unlink, Rename, Mkdir, Rmdir, Symlink, Mkdirat, Unlinkat, Renameat, Linkat, Symlinkat}
use Rattle.o32_calls.specs.declared.names.TextCall.TheVariants.{Readlink, Readlinkat}
use Rattle.o32_model.specs.PathArguments.{base, one_flag}
use Rattle.o32_model.specs.Paths.{path_at}
use Rattle.o32_model.specs.Step.{Guest, O32Step, O32Row, gives}
use Rattle.o32_model.specs.Results.{stores_text}
use Rattle.o32_model.specs.Words.{argument, signed_argument, stack_word}

-- Directories

unfoldable pub mkdir_row : Kernel → Guest → Base → ℕ → ℕ → List ℕ → O32Step
mkdir_row kernel guest from address mode left =
    gives guest (told_zero (marked kernel (λ files now. make_directory files now from (path_at guest.memory address) mode))) left

-- Removing: `directory` says whether a directory is removed, and is none where there are other flags

unfoldable pub remove_row : Kernel → Guest → Base → ℕ → Option Bool → List ℕ → O32Step
remove_row kernel guest from address directory left =
    gives guest (told_zero (marked kernel (λ files now. remove_name files now from (path_at guest.memory address) directory))) left

-- AT_REMOVEDIR of Linux include/uapi/linux/fcntl.h
abbrev pub remove_directory_flag : ℕ
remove_directory_flag = 0x200

-- Links

abbrev pub linked : Kernel → Guest → Base → ℕ → Base → ℕ → Option Bool → Did Kernel ℕ
linked kernel guest old_from old new_from new follow =
    told_zero
    (marked kernel (λ files now.
    link files now old_from (path_at guest.memory old) new_from (path_at guest.memory new) follow))

-- a last link of the old path is not followed
unfoldable pub link_row : Kernel → Guest → ℕ → ℕ → List ℕ → O32Step
link_row kernel guest old new left = gives guest (linked kernel guest Working old Working new (Some false)) left

-- AT_SYMLINK_FOLLOW there
abbrev pub follow_flag : ℕ
follow_flag = 0x400

-- the flags are on the stack, and where they can't be read, that is EFAULT before all else (this project's own)
unfoldable pub linkat_row : Kernel → Guest → Base → ℕ → Base → ℕ → Option ℕ → List ℕ → O32Step
linkat_row kernel guest old_from old new_from new flags left =
    gives guest
    (with_some kernel EFAULT flags (λ flags.
    linked kernel guest old_from old new_from new (one_flag follow_flag flags))) left

unfoldable pub symlink_row : Kernel → Guest → ℕ → Base → ℕ → List ℕ → O32Step
symlink_row kernel guest target from address left =
    gives guest
    (told_zero
    (marked kernel (λ files now. make_link files now (path_at guest.memory target) from (path_at guest.memory address)))) left

unfoldable pub readlink_row : Kernel → Guest → Base → ℕ → ℕ → ℤ → List ℕ → O32Step
readlink_row kernel guest from address buffer size left =
    stores_text guest buffer (on_files kernel (read_link kernel.files from (path_at guest.memory address) size)) left

-- Renaming

unfoldable pub rename_row : Kernel → Guest → Base → ℕ → Base → ℕ → List ℕ → O32Step
rename_row kernel guest old_from old new_from new left =
    gives guest
    (told_zero
    (marked kernel (λ files now.
    rename files now old_from (path_at guest.memory old) new_from (path_at guest.memory new)))) left

-- The numbers (Linux arch/mips/include/uapi/asm/unistd.h, the o32 table)
abbrev pub name_calls : List O32Row
name_calls =
    record { number = name_number Link; step = λ kernel guest. link_row kernel guest (argument guest.words 0) (argument guest.words 1) }
    ∷ record { number = name_number Unlink; step = λ kernel guest. remove_row kernel guest Working (argument guest.words 0) (Some false) }
    ∷ record { number = name_number Rename; step = λ kernel guest. rename_row kernel guest Working (argument guest.words 0) Working (argument guest.words 1) }
    ∷ record { number = name_number Mkdir; step = λ kernel guest. mkdir_row kernel guest Working (argument guest.words 0) (argument guest.words 1) }
    ∷ record { number = name_number Rmdir; step = λ kernel guest. remove_row kernel guest Working (argument guest.words 0) (Some true) }
    ∷ record { number = name_number Symlink; step = λ kernel guest. symlink_row kernel guest (argument guest.words 0) Working (argument guest.words 1) }
    ∷ record { number = text_number Readlink; step = λ kernel guest. readlink_row kernel guest Working (argument guest.words 0) (argument guest.words 1) (signed_argument guest.words 2) }
    ∷ record { number = name_number Mkdirat; step = λ kernel guest. mkdir_row kernel guest (base (argument guest.words 0)) (argument guest.words 1) (argument guest.words 2) }
    ∷ record { number = name_number Unlinkat; step = λ kernel guest. remove_row kernel guest (base (argument guest.words 0)) (argument guest.words 1) (one_flag remove_directory_flag (argument guest.words 2)) }
    ∷ record { number = name_number Renameat; step = λ kernel guest. rename_row kernel guest (base (argument guest.words 0)) (argument guest.words 1) (base (argument guest.words 2)) (argument guest.words 3) }
    ∷ record { number = name_number Linkat; step = λ kernel guest. linkat_row kernel guest (base (argument guest.words 0)) (argument guest.words 1) (base (argument guest.words 2)) (argument guest.words 3) (stack_word guest.words 0) }
    ∷ record { number = name_number Symlinkat; step = λ kernel guest. symlink_row kernel guest (argument guest.words 0) (base (argument guest.words 1)) (argument guest.words 2) }
    ∷ record { number = text_number Readlinkat; step = λ kernel guest. readlink_row kernel guest (base (argument guest.words 0)) (argument guest.words 1) (argument guest.words 2) (signed_argument guest.words 3) }
    ∷ []
