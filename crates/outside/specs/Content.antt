-- The files of a store in memory. This project's own.
use Rattle.std.specs.Prelude.{ℕ, List, [], ◌∷◌, Option, None, Some, if◌then◌else◌}
use Rattle.std.specs.Str.{bytes_eq}

-- a file: its name and its bytes
pub record FileBytes : Type 0 where
  pub name : List ℕ
  pub bytes : List ℕ

-- the bytes of the file of this name, which is the first one that has it
abbrev pub content_of : List FileBytes → List ℕ → Option (List ℕ)
content_of [] name = None
content_of (file ∷ files) name = if bytes_eq file.name name then Some file.bytes else content_of files name
