-- A pool of places, seen as the list that says of each place whether it is taken, and the least
-- free place of it. (This project's own rule; POSIX asks no more of a file's serial number, st_ino of
-- sys/stat.h, than that no two live files of a file system have the same.)
use Rattle.std.specs.Prelude.{◌≡◌, ℕ, ◌<◌, ◌≤◌, Bool, true, false, List, length, replicate, slice_index_or}

-- no place is taken, of so many
unfoldable pub none_taken : ℕ → List Bool
none_taken size = replicate size false

-- whether the place is taken; a number past the last place is not
abbrev pub is_taken_at : List Bool → ℕ → Bool
is_taken_at taken place = slice_index_or taken place false

-- every place is taken
abbrev pub AreAllTaken : List Bool → Type 0
AreAllTaken taken = (place : ℕ) → place < length taken → is_taken_at taken place ≡ true

-- the place is free, and every place below it is taken
pub record IsLeastFree (taken : List Bool) (place : ℕ) : Type 0 where
  pub inside : place < length taken
  pub free : is_taken_at taken place ≡ false
  pub below : (lower : ℕ) → lower < place → is_taken_at taken lower ≡ true

-- every place from one on is taken
abbrev pub AreTakenFrom : List Bool → ℕ → Type 0
AreTakenFrom taken from = (place : ℕ) → from ≤ place → place < length taken → is_taken_at taken place ≡ true

-- the place is free and not below `from`, and every place between is taken
pub record IsLeastFreeFrom (taken : List Bool) (from place : ℕ) : Type 0 where
  pub from_there : from ≤ place
  pub inside : place < length taken
  pub free : is_taken_at taken place ≡ false
  pub between : (lower : ℕ) → from ≤ lower → lower < place → is_taken_at taken lower ≡ true
