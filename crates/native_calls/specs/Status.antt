-- The calls on what a descriptor has open: lseek(2), fstat(2), getdents64(2), fsync(2), fdatasync(2).
use Rattle.std.specs.Prelude.{ℕ, ℤ, pos, false, List, [], ◌∷◌, None}
use Rattle.std.specs.List.{flat_map}
use Rattle.std.specs.Int.{int_rem_euclid}
use Rattle.host_mem.specs.Memory.{written}
use Rattle.kernel_core.specs.LoadedTree.{whole_seconds}
use Rattle.kernel_core.specs.Queries.{NodeKind, FileKind, DirectoryKind, LinkKind}
use Rattle.kernel_model.specs.Came.{told_as, told_zero}
use Rattle.kernel_model.specs.Clock.{second}
use Rattle.kernel_model.specs.ContentRows.{Status, Entry, Records, seek, status, status_owner, status_group, status_block_size, entries, sync}
use Rattle.kernel_model.specs.State.{Kernel}
use Rattle.kernel_model.specs.Whole.{on_files}
use Rattle.layouts.specs.Dirents.{type_number, dirent64_length, dirent64_bytes}
use Rattle.layouts.specs.Native.{stat}
use Rattle.layouts.specs.Shape.{record_bytes}
use Rattle.layouts.specs.declared.dirent.EntryType.{EntryType}
use Rattle.layouts.specs.declared.dirent.EntryType.TheVariants as types
use Rattle.native_calls.specs.Arguments.{argument, word, offset}
use Rattle.native_calls.specs.HostBytes.{accessible}
use Rattle.native_calls.specs.Step.{NativeStep, NativeCall, gives, stores, fills}

-- Seeking

unfoldable pub lseek_row : Kernel → List ℕ → ℕ → ℤ → ℕ → List ℕ → NativeStep
lseek_row kernel memory fd place origin left = gives memory (on_files kernel (seek kernel.files fd place origin)) left

-- Status

-- the nanoseconds of a time past its whole seconds, which are rounded down
abbrev pub part_of_second : ℤ → ℤ
part_of_second time = int_rem_euclid time (pos second)

-- the fields in the order of the layout
abbrev pub status_values : Status → List ℤ
status_values status =
    pos status.device ∷ pos status.number ∷ pos status.mode ∷ pos status.links ∷ pos status_owner ∷ pos status_group
    ∷ pos status.terminal_device ∷ pos status.size
    ∷ whole_seconds status.access ∷ part_of_second status.access
    ∷ whole_seconds status.modified ∷ part_of_second status.modified
    ∷ whole_seconds status.changed ∷ part_of_second status.changed
    ∷ pos status_block_size ∷ pos status.sectors ∷ []

abbrev pub status_bytes : Status → List ℕ
status_bytes status = record_bytes stat (status_values status)

unfoldable pub fstat_row : Kernel → List ℕ → ℕ → ℕ → List ℕ → NativeStep
fstat_row kernel memory fd address left = stores memory address (told_as status_bytes (on_files kernel (status kernel.files fd))) left

-- Syncing, with the data alone too

unfoldable pub sync_row : Kernel → List ℕ → ℕ → List ℕ → NativeStep
sync_row kernel memory fd left = gives memory (told_zero (on_files kernel (sync kernel.files fd))) left

-- Entries

abbrev pub entry_type : NodeKind → EntryType
entry_type FileKind = types.File
entry_type DirectoryKind = types.Directory
entry_type LinkKind = types.Link

-- a record holds every node number
abbrev pub entry_records : Records
entry_records = record { length_for = dirent64_length; greatest = None }

abbrev pub entry_bytes : Entry → List ℕ
entry_bytes entry = dirent64_bytes false entry.node entry.cookie (type_number (entry_type entry.kind)) entry.name

unfoldable pub getdents_row : Kernel → List ℕ → ℕ → ℕ → ℕ → List ℕ → NativeStep
getdents_row kernel memory fd buffer size left =
    fills (written memory buffer) memory
    (told_as (flat_map entry_bytes) (on_files kernel (entries kernel.files fd entry_records size (accessible memory buffer size)))) left

-- The numbers (Linux include/uapi/asm-generic/unistd.h)
abbrev pub status_calls : List NativeCall
status_calls =
    record { number = 61; step = λ args kernel memory. getdents_row kernel memory (word args 0) (argument args 1) (word args 2) }
    ∷ record { number = 62; step = λ args kernel memory. lseek_row kernel memory (word args 0) (offset args 1) (word args 2) }
    ∷ record { number = 80; step = λ args kernel memory. fstat_row kernel memory (word args 0) (argument args 1) }
    ∷ record { number = 82; step = λ args kernel memory. sync_row kernel memory (word args 0) }
    ∷ record { number = 83; step = λ args kernel memory. sync_row kernel memory (word args 0) }
    ∷ []
