-- The entries that getdents(2) and getdents64(2) give, whose length is that of their name.
use Rattle.std.specs.Prelude.{ℕ, ◌+◌, ◌*◌, ◌/◌, ◌-◌, Bool, true, List, [], ◌∷◌, ◌++◌, length, take, drop, replicate}
use Rattle.layouts.specs.Number.{bytes_of}
use Rattle.layouts.specs.declared.dirent.EntryType.{EntryType}
use Rattle.layouts.specs.declared.dirent.EntryType.TheVariants.{Directory, File, Link}

-- the numbers of the types of entries (DT_DIR, DT_REG and DT_LNK of Linux include/linux/fs_types.h)
abbrev pub type_number : EntryType → ℕ
type_number Directory = 4
type_number File = 8
type_number Link = 10

-- a length rounded up to a multiple of a step
abbrev pub rounded_up : ℕ → ℕ → ℕ
rounded_up step length = (length + (step - 1)) / step * step

-- the length of an entry by that of its name: after the name at least one NUL, and in a
-- linux_dirent the type in the last byte
abbrev pub dirent_length : ℕ → ℕ
dirent_length name = rounded_up 4 (12 + name)

abbrev pub dirent64_length : ℕ → ℕ
dirent64_length name = rounded_up 8 (20 + name)

-- some bytes with a part at a place, and every other byte as it was
abbrev pub placed : ℕ → List ℕ → List ℕ → List ℕ
placed offset part bytes = take offset bytes ++ part ++ drop (offset + length part) bytes

-- the bytes of a linux_dirent of an o32 program: each part in its place, and 0 elsewhere
abbrev pub dirent_bytes : ℕ → ℕ → ℕ → List ℕ → List ℕ
dirent_bytes ino offset kind name =
    let whole = dirent_length (length name) in
    placed (whole - 1) (kind ∷ [])
    (placed 10 name (placed 8 (bytes_of true 2 whole) (placed 4 (bytes_of true 4 offset) (placed 0 (bytes_of true 4 ino)
    (replicate whole 0)))))

-- the bytes of a linux_dirent64, with the first byte of a number counting most or least
abbrev pub dirent64_bytes : Bool → ℕ → ℕ → ℕ → List ℕ → List ℕ
dirent64_bytes big ino offset kind name =
    let whole = dirent64_length (length name) in
    placed 19 name
    (placed 18 (kind ∷ []) (placed 16 (bytes_of big 2 whole) (placed 8 (bytes_of big 8 offset) (placed 0 (bytes_of big 8 ino)
    (replicate whole 0)))))
