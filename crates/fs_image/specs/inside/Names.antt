-- The names that a directory has so far, as the code keeps them beside the entries: a set of bytes.
use Rattle.std.specs.Prelude.{◌≡◌, ℕ, Bool, List}
use Rattle.std.specs.HashSet.{HashSet, contains_by}
use Rattle.std.specs.Str.{bytes_eq}
use denote.Ref.{Bor}
use Rattle.kernel_core.specs.declared.tree.DirEntry.{DirEntry}
use Rattle.fs_image.specs.Reading.{is_taken}

abbrev pub has_name : {S : Type 0} → HashSet (Bor (List ℕ)) S → List ℕ → Bool
has_name names bytes = contains_by (λ name. bytes_eq bytes name.now) names

-- the set has the names of these entries and no other
abbrev pub AreNames : {S : Type 0} → HashSet (Bor (List ℕ)) S → List DirEntry → Type 0
AreNames names entries = (bytes : List ℕ) → has_name names bytes ≡ is_taken entries bytes
