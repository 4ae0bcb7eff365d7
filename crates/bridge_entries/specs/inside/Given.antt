-- Entries that the native getdents64(2) gives. (The form is this project's own.)
use Rattle.std.specs.Prelude.{◌≡◌, ℕ, ◌<◌, ◌≤◌, ◌^◌, false, List, length}
use Rattle.std.specs.List.{AllByRecursion, list_any}
use Rattle.kernel_core.specs.ValidTree.{is_no_name_byte}
use Rattle.kernel_model.specs.ContentRows.{Entry}
use Rattle.layouts.specs.Dirents.{dirent64_length, type_number}
use Rattle.native_calls.specs.Status.{entry_type}
use Rattle.bridge_entries.specs.declared.records.Record.{Record}

-- an entry behind a position, as a file system has it
pub record IsListed (position : ℕ) (entry : Entry) : Type 0 where
  pub behind : position < entry.cookie
  pub node : entry.node < 2 ^ 63
  pub cookie : entry.cookie < 2 ^ 31
  pub short : length entry.name ≤ 255
  pub plain : list_any is_no_name_byte entry.name ≡ false

abbrev pub AreListed : ℕ → List Entry → Type 0
AreListed position entries = AllByRecursion (IsListed position) entries

-- what its native record says
abbrev pub record_of : Entry → Record
record_of entry = record {
  node = entry.node;
  cookie = entry.cookie;
  kind = type_number (entry_type entry.kind);
  length = dirent64_length (length entry.name);
  name = length entry.name;
}
