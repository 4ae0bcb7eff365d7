-- The calls on status: stat(2), lstat(2), fstat(2), fstatat(2), in the old structure and in that of 64 bits.
use Rattle.std.specs.Prelude.{ℕ, ◌+◌, ◌-◌, ◌^◌, ℤ, pos, Bool, true, false, not, ◌||◌, List, [], ◌∷◌, Option, Some, None, nat_lt, if◌then◌else◌}
use Rattle.std.specs.Int.{int_rem_euclid}
use Rattle.kernel_core.specs.Bits.{has}
use Rattle.kernel_core.specs.LoadedTree.{whole_seconds}
use Rattle.kernel_model.specs.Came.{Did, told_as}
use Rattle.kernel_model.specs.Clock.{second}
use Rattle.kernel_model.specs.ContentRows.{Status, status, status_owner, status_group, status_block_size}
use Rattle.kernel_model.specs.NodeRows.{StatusFlags, status_at_path}
use Rattle.kernel_model.specs.Paths.{Base, Working}
use Rattle.kernel_model.specs.State.{Kernel}
use Rattle.kernel_model.specs.Whole.{on_files}
use Rattle.layouts.specs.O32.{stat, stat64}
use Rattle.layouts.specs.Shape.{record_bytes}
use Rattle.o32_calls.specs.Numbers.{status_number}
use Rattle.o32_calls.specs.declared.files.StatusCall.TheVariants.{Stat, Lstat, Fstat, Stat64, Lstat64, Fstat64, Fstatat64}
use Rattle.o32_model.specs.Narrow.{narrowed, low_word}
use Rattle.o32_model.specs.PathArguments.{base, nofollow_flag, no_automount_flag, empty_path_flag, has_only}
use Rattle.o32_model.specs.Paths.{path_at}
use Rattle.o32_model.specs.Step.{Guest, O32Step, O32Row, stores}
use Rattle.o32_model.specs.Transfers.{small_file_limit}
use Rattle.o32_model.specs.Words.{argument}

-- What is stored

-- the whole seconds of a time, of which a field of 32 bits keeps the low ones, and the nanoseconds past them

abbrev pub stored_seconds : ℤ → ℤ
stored_seconds time = low_word (whole_seconds time)

abbrev pub part_of_second : ℤ → ℤ
part_of_second time = int_rem_euclid time (pos second)

-- the fields in the order of both structures
abbrev pub status_values : Status → List ℤ
status_values status =
    pos status.device ∷ pos status.number ∷ pos status.mode ∷ pos status.links ∷ pos status_owner ∷ pos status_group
    ∷ pos status.terminal_device ∷ pos status.size
    ∷ stored_seconds status.access ∷ part_of_second status.access
    ∷ stored_seconds status.modified ∷ part_of_second status.modified
    ∷ stored_seconds status.changed ∷ part_of_second status.changed
    ∷ pos status_block_size ∷ pos status.sectors ∷ []

abbrev pub status_bytes : Status → List ℕ
status_bytes status = record_bytes stat (status_values status)

abbrev pub status64_bytes : Status → List ℕ
status64_bytes status = record_bytes stat64 (status_values status)

-- the greatest node number that the old structure holds (an ino_t of 32 bits)
abbrev pub greatest_node : ℕ
greatest_node = 2 ^ 32 - 1

-- the old structure holds neither a greater one nor a greater size than an off_t of 32 bits
abbrev pub is_wide : Status → Bool
is_wide status = nat_lt greatest_node status.number || nat_lt small_file_limit status.size

-- The forms

abbrev pub stores_status : Guest → ℕ → Did Kernel Status → List ℕ → O32Step
stores_status guest address did left = stores guest address (told_as status_bytes (narrowed is_wide did)) left

abbrev pub stores_status64 : Guest → ℕ → Did Kernel Status → List ℕ → O32Step
stores_status64 guest address did left = stores guest address (told_as status64_bytes did) left

-- the status by a path, with the flags that fstatat(2) has
abbrev pub status_from : Kernel → Guest → Base → ℕ → Option StatusFlags → Did Kernel Status
status_from kernel guest from address flags = on_files kernel (status_at_path kernel.files from (path_at guest.memory address) flags)

-- stat(2) with true, and lstat(2) with false
abbrev pub following : Bool → Option StatusFlags
following follow = Some (record { follow = follow; empty = false })

unfoldable pub stat_row : Kernel → Guest → Bool → ℕ → ℕ → List ℕ → O32Step
stat_row kernel guest follow address buffer left =
    stores_status guest buffer (status_from kernel guest Working address (following follow)) left

unfoldable pub fstat_row : Kernel → Guest → ℕ → ℕ → List ℕ → O32Step
fstat_row kernel guest fd buffer left = stores_status guest buffer (on_files kernel (status kernel.files fd)) left

unfoldable pub stat64_row : Kernel → Guest → Bool → ℕ → ℕ → List ℕ → O32Step
stat64_row kernel guest follow address buffer left =
    stores_status64 guest buffer (status_from kernel guest Working address (following follow)) left

unfoldable pub fstat64_row : Kernel → Guest → ℕ → ℕ → List ℕ → O32Step
fstat64_row kernel guest fd buffer left = stores_status64 guest buffer (on_files kernel (status kernel.files fd)) left

-- what the flags say, of which AT_NO_AUTOMOUNT says nothing here; none where there are others than the three
abbrev pub status_flags : ℕ → Option StatusFlags
status_flags flags =
    if has_only flags (nofollow_flag + no_automount_flag + empty_path_flag)
    then Some (record { follow = not (has flags nofollow_flag); empty = has flags empty_path_flag })
    else None

unfoldable pub fstatat64_row : Kernel → Guest → Base → ℕ → ℕ → ℕ → List ℕ → O32Step
fstatat64_row kernel guest from address buffer flags left =
    stores_status64 guest buffer (status_from kernel guest from address (status_flags flags)) left

-- The numbers (Linux arch/mips/include/uapi/asm/unistd.h, the o32 table)
abbrev pub status_calls : List O32Row
status_calls =
    record { number = status_number Stat; step = λ kernel guest. stat_row kernel guest true (argument guest.words 0) (argument guest.words 1) }
    ∷ record { number = status_number Lstat; step = λ kernel guest. stat_row kernel guest false (argument guest.words 0) (argument guest.words 1) }
    ∷ record { number = status_number Fstat; step = λ kernel guest. fstat_row kernel guest (argument guest.words 0) (argument guest.words 1) }
    ∷ record { number = status_number Stat64; step = λ kernel guest. stat64_row kernel guest true (argument guest.words 0) (argument guest.words 1) }
    ∷ record { number = status_number Lstat64; step = λ kernel guest. stat64_row kernel guest false (argument guest.words 0) (argument guest.words 1) }
    ∷ record { number = status_number Fstat64; step = λ kernel guest. fstat64_row kernel guest (argument guest.words 0) (argument guest.words 1) }
    ∷ record { number = status_number Fstatat64; step = λ kernel guest. fstatat64_row kernel guest (base (argument guest.words 0)) (argument guest.words 1) (argument guest.words 2) (argument guest.words 3) }
    ∷ []
