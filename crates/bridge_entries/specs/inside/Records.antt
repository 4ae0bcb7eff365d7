-- What a native record of getdents64(2) says, as it is read from bytes, and the program's records of that. (The form is this project's own.)
use Rattle.std.specs.Prelude.{ℕ, ◌+◌, ◌≤◌, ◌==◌, Bool, true, ◌||◌, not, List, length, drop, position, slice_index, Option, Some, None, nat_lt, nat_le, if◌then◌else◌}
use Rattle.byteorder.specs.Endian.{little_number}
use Rattle.kernel_core.specs.declared.error.Errno.{Errno}
use Rattle.kernel_core.specs.declared.error.Errno.TheVariants.{EINVAL, EOVERFLOW}
use Rattle.layouts.specs.Dirents.{dirent_length, dirent64_length, dirent_bytes, dirent64_bytes}
use Rattle.bridge_entries.specs.declared.records.Form.{Form}
use Rattle.bridge_entries.specs.declared.records.Form.TheVariants.{Narrow, Wide}
use Rattle.bridge_entries.specs.declared.records.Record.{Record}

-- Native records

-- a name of at most 255 bytes
abbrev pub if_short : Option ℕ → Option ℕ
if_short None = None
if_short (Some name) = if nat_le name 255 then Some name else None

-- how many bytes stand before the first NUL
abbrev pub name_length : List ℕ → Option ℕ
name_length bytes = if_short (position (λ byte. byte == 0) bytes)

abbrev pub with_name : List ℕ → ℕ → Option ℕ → Option Record
with_name bytes whole None = None
with_name bytes whole (Some name) =
    if nat_lt whole 24 || nat_lt (length bytes) whole || nat_lt whole (19 + name) then None
    else Some (record {
      node = little_number 8 bytes;
      cookie = little_number 4 (drop 8 bytes);
      kind = slice_index bytes 18;
      length = whole;
      name = name;
    })

-- the record that bytes begin with
abbrev pub record_in : List ℕ → Option Record
record_in bytes = if nat_lt (length bytes) 24 then None else with_name bytes (little_number 2 (drop 16 bytes)) (name_length (drop 19 bytes))

-- it is one of at least 24 bytes, all there, with its name inside
pub record IsWithin (record' : Record) (there : ℕ) : Type 0 where
  pub some : 24 ≤ record'.length
  pub inside : record'.length ≤ there
  pub named : 19 + record'.name ≤ record'.length
  pub short : record'.name ≤ 255

-- The program's records

abbrev pub length_for : Form → ℕ → ℕ
length_for Narrow name = dirent_length name
length_for Wide name = dirent64_length name

abbrev pub can_hold : Form → ℕ → Bool
can_hold Narrow node = nat_le node 0xFFFF_FFFF
can_hold Wide node = true

abbrev pub record_bytes : Form → Record → List ℕ → List ℕ
record_bytes Narrow entry name = dirent_bytes entry.node entry.cookie entry.kind name
record_bytes Wide entry name = dirent64_bytes true entry.node entry.cookie entry.kind name

-- the record that bytes begin with, where the program's has room in so many bytes and holds the node number

abbrev pub if_fits : Form → ℕ → Option Record → Option Record
if_fits form left None = None
if_fits form left (Some found) = if nat_lt left (length_for form found.name) || not (can_hold form found.node) then None else Some found

abbrev pub next_fitting : Form → ℕ → List ℕ → Option Record
next_fitting form left bytes = if_fits form left (record_in bytes)

-- what is wrong with the first one

abbrev pub refusal_of : Form → ℕ → Option Record → Option Errno
refusal_of form size None = None
refusal_of form size (Some found) =
    if nat_lt size (length_for form found.name) then Some EINVAL
    else (if can_hold form found.node then None else Some EOVERFLOW)

abbrev pub refusal : Form → ℕ → List ℕ → Option Errno
refusal form size bytes = refusal_of form size (record_in bytes)
