-- What a row is asked with: the numbers that a program's arguments can be (path_resolution(7), symlink(2), utimensat(2)). An argument that could
-- not be read says nothing.
use Rattle.std.specs.Int.{w64}
use Rattle.std.specs.Prelude.{◌≡◌, ℕ, ◌<◌, ◌≤◌, ◌==◌, false, List, length, Option, Some, None, Ok, Err, FitsSigned, slice_index, ⊤}
use Rattle.std.specs.List.{list_any}
use Rattle.kernel_model.specs.Came.{Given}
use Rattle.kernel_model.specs.NodeRows.{Times}

-- of what was read
abbrev pub WhereRead : {A : Type 0} → (A → Type 0) → Given A → Type 0
WhereRead P (Ok value) = P value
WhereRead P (Err error) = ⊤

-- the same of an argument whose pointer may be null
abbrev pub WhereGiven : {A : Type 0} → (A → Type 0) → Option (Given A) → Type 0
WhereGiven P None = ⊤
WhereGiven P (Some given) = WhereRead P given

-- a path or a target as it was read, up to its NUL: bytes, and no NUL among them
pub record IsText (text : List ℕ) : Type 0 where
  pub are_bytes : (place : ℕ) → slice_index text place < 256
  pub plain : list_any (λ byte. byte == 0) text ≡ false

-- a target of a symbolic link (symlink(2)): 4095 bytes at most
pub record IsShortText (target : List ℕ) : Type 0 where
  pub text : IsText target
  pub short : length target ≤ 4095

-- times whose seconds are signed numbers of 64 bits
pub record AreSeconds (times : Times) : Type 0 where
  pub access : FitsSigned w64 times.access.seconds
  pub modified : FitsSigned w64 times.modified.seconds
