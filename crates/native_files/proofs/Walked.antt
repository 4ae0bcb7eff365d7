-- Where paths lead, in the words of rows.
use Rattle.std.proofs.Common.{◌≡◌, ℕ, Bool, true, false, ◌==◌, List, [], ◌∷◌, refl, sym, ap, ◌∙◌, get_or, length, eq-eqb, ne_eqb}
use Rattle.std.specs.Prelude.{Result, Ok, Err, if◌then◌else◌}
use Rattle.kernel_core.specs.Nodes.{Nodes}
use Rattle.kernel_core.specs.PathWalk.{Place, begins_with_slash, components, ends_with_slash, link_limit}
use Rattle.kernel_core.specs.Queries.{walked, walked_from, walked_through}
use Rattle.kernel_core.specs.ValidTree.{root}
use Rattle.kernel_core.specs.declared.core_error.CoreError.{CoreError}
use Rattle.kernel_core.specs.declared.core_error.CoreError.TheVariants as errors
use Rattle.kernel_core.specs.declared.core_error.Stop.TheVariants as stops
use Rattle.kernel_core.specs.declared.error.Errno.{Errno}
use Rattle.file_system_laws.proofs.WalkedPaths.{walked_is_the_walk}
use Rattle.file_system_laws.proofs.Walking.{one_answer}
use Rattle.kernel_model.specs.Paths.{Base, Working, Descriptor, walk, walked_by}
use Rattle.kernel_model.specs.State.{Descriptors, Files}
use Rattle.kernel_model.specs.declared.descriptor.Description.{Description}
use Rattle.native_vfs.specs.Answers.{IsWalked}
use Rattle.native_vfs.specs.Keyed.{Keyed}
use Rattle.native_vfs.specs.declared.place.Place.{Place as KeyedPlace}
use Rattle.native_files.specs.inside.Walks.{LeadsTo, base_in, walk_in}

-- what a walk gives is the answer of the function
pub walked-leads : (system : Keyed) (from : ℕ) (path : List ℕ) (follow : Bool) (result : Result KeyedPlace CoreError) → IsWalked system from path follow result
    → LeadsTo system (walked system.nodes from path follow) result
walked-leads system from path follow (Ok place) is =
    (one_answer system.nodes from path follow _ _ (walked_is_the_walk system.nodes from path follow) is.1, is.0)
walked-leads system from path follow (Err (errors.Refused error)) is = one_answer system.nodes from path follow _ _ (walked_is_the_walk system.nodes from path follow) is
walked-leads system from path follow (Err (errors.Stop stops.NoMemory)) is = tt
walked-leads system from path follow (Err (errors.Stop stops.ReadFault)) is = is
walked-leads system from path follow (Err (errors.Stop stops.WriteFault)) is = is

-- the first byte of a path

pub not-empty : (path : List ℕ) → false ≡ (length path == 0) → path ≡ [] → ⊥
not-empty path some none = let bad : false ≡ true = some ∙ ap (λ p. length p == 0) none in cc

pub slash-begins : (path : List ℕ) → (path ≡ [] → ⊥) → get_or path 0 0 ≡ 47 → begins_with_slash path ≡ true
slash-begins [] some is = absurd (some refl)
slash-begins (byte ∷ bytes) some is = eq-eqb byte 47 is

pub other-begins : (path : List ℕ) → (path ≡ [] → ⊥) → (get_or path 0 0 ≡ 47 → ⊥) → begins_with_slash path ≡ false
other-begins [] some is = absurd (some refl)
other-begins (byte ∷ bytes) some is = ne_eqb byte 47 is

-- a path that begins with a slash begins at the root, whatever the directory is
from_root : (nodes : Nodes) (path : List ℕ) (follow : Bool) (from : ℕ) → begins_with_slash path ≡ true → walked nodes root path follow ≡ walked nodes from path follow
unfolding walked
from_root nodes [] follow from slash = refl
from_root nodes (byte ∷ bytes) follow from slash =
    let path = byte ∷ bytes in
    let on : ℕ → Result Place Errno = λ at. walked_from nodes follow (ends_with_slash path) (walked_through link_limit nodes follow (ends_with_slash path)) at (components path) false in
    ap (λ b. on (if b then root else root)) slash ∙ sym (ap (λ b. on (if b then root else from)) slash)

module _ (nodes : Nodes) (table : Descriptors Description) (home : ℕ) (base : Base) (follow : Bool) where
  pub walk_in-slash : (path : List ℕ) (from : ℕ) → begins_with_slash path ≡ true → walk_in nodes table home base path follow ≡ walked nodes from path follow
  walk_in-slash [] from slash = absurd (cc)
  walk_in-slash (byte ∷ bytes) from slash =
      ap (λ b. walked_by nodes (if b then Ok root else base_in nodes table home base) (byte ∷ bytes) follow) slash ∙ from_root nodes (byte ∷ bytes) follow from slash

  pub walk_in-base : (path : List ℕ) (from : ℕ) → (path ≡ [] → ⊥) → begins_with_slash path ≡ false → base_in nodes table home base ≡ Ok from
      → walk_in nodes table home base path follow ≡ walked nodes from path follow
  walk_in-base [] from some slash is = absurd (some refl)
  walk_in-base (byte ∷ bytes) from some slash is =
      ap (λ b. walked_by nodes (if b then Ok root else base_in nodes table home base) (byte ∷ bytes) follow) slash
      ∙ ap (λ r. walked_by nodes r (byte ∷ bytes) follow) is

  pub walk_in-wrong : (path : List ℕ) (error : Errno) → (path ≡ [] → ⊥) → begins_with_slash path ≡ false → base_in nodes table home base ≡ Err error
      → walk_in nodes table home base path follow ≡ Err error
  walk_in-wrong [] error some slash is = absurd (some refl)
  walk_in-wrong (byte ∷ bytes) error some slash is =
      ap (λ b. walked_by nodes (if b then Ok root else base_in nodes table home base) (byte ∷ bytes) follow) slash
      ∙ ap (λ r. walked_by nodes r (byte ∷ bytes) follow) is

-- the walk of the files
pub walk-is : (files : Files) (base : Base) (path : List ℕ) (follow : Bool) → walk files base path follow ≡ walk_in files.nodes files.table files.directory base path follow
unfolding walk
walk-is files base [] follow = refl
walk-is files Working (byte ∷ bytes) follow = refl
walk-is files (Descriptor fd) (byte ∷ bytes) follow = refl
