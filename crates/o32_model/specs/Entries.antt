-- The entries of a directory: getdents(2), getdents64(2).
use Rattle.std.specs.Prelude.{ℕ, true, List, [], ◌∷◌, Some, None}
use Rattle.std.specs.List.{flat_map}
use Rattle.guest_space.specs.Bytes.{copied_out}
use Rattle.kernel_core.specs.Queries.{NodeKind, FileKind, DirectoryKind, LinkKind}
use Rattle.kernel_model.specs.Came.{told_as}
use Rattle.kernel_model.specs.ContentRows.{Entry, Records, entries}
use Rattle.kernel_model.specs.State.{Kernel}
use Rattle.kernel_model.specs.Whole.{on_files}
use Rattle.layouts.specs.Dirents.{type_number, dirent_length, dirent64_length, dirent_bytes, dirent64_bytes}
use Rattle.layouts.specs.declared.dirent.EntryType.{EntryType}
use Rattle.layouts.specs.declared.dirent.EntryType.TheVariants as types
use Rattle.o32_calls.specs.Numbers.{entries_number}
use Rattle.o32_calls.specs.declared.files.EntriesCall.TheVariants.{Getdents, Getdents64}
use Rattle.o32_model.specs.GuestBytes.{accessible}
use Rattle.o32_model.specs.Status.{greatest_node}
use Rattle.o32_model.specs.Step.{Guest, O32Step, O32Row, fills}
use Rattle.o32_model.specs.Words.{argument}

abbrev pub entry_type : NodeKind → EntryType
entry_type FileKind = types.File
entry_type DirectoryKind = types.Directory
entry_type LinkKind = types.Link

-- How one of the two calls writes entries: what its records are, and the bytes of one. An entry's offset is its own cookie.
pub record EntryForm : Type 0 where
  pub records : Records
  pub bytes : Entry → List ℕ

-- a node number of 32 bits, with the type in the last byte
abbrev pub entry_form : EntryForm
entry_form = record {
  records = record { length_for = dirent_length; greatest = Some greatest_node };
  bytes = λ entry. dirent_bytes entry.node entry.cookie (type_number (entry_type entry.kind)) entry.name;
}

-- one of 64 bits
abbrev pub entry64_form : EntryForm
entry64_form = record {
  records = record { length_for = dirent64_length; greatest = None };
  bytes = λ entry. dirent64_bytes true entry.node entry.cookie (type_number (entry_type entry.kind)) entry.name;
}

unfoldable pub getdents_row : EntryForm → Kernel → Guest → ℕ → ℕ → ℕ → List ℕ → O32Step
getdents_row form kernel guest fd buffer size left =
    fills (copied_out guest.memory buffer) guest
    (told_as (flat_map form.bytes)
    (on_files kernel (entries kernel.files fd form.records size (accessible guest.memory buffer size)))) left

-- The numbers (Linux arch/mips/include/uapi/asm/unistd.h, the o32 table)
abbrev pub entry_calls : List O32Row
entry_calls =
    record { number = entries_number Getdents; step = λ kernel guest. getdents_row entry_form kernel guest (argument guest.words 0) (argument guest.words 1) (argument guest.words 2) }
    ∷ record { number = entries_number Getdents64; step = λ kernel guest. getdents_row entry64_form kernel guest (argument guest.words 0) (argument guest.words 1) (argument guest.words 2) }
    ∷ []
