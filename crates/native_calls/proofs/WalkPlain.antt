-- The walk of a path is never refused with ENOMEM.
use Rattle.std.specs.Prelude.{ℕ, zero, suc, Bool, true, false, ◌&&◌, ◌||◌, not, List, [], ◌∷◌, ◌++◌, length, Option, Some, None, Result, Ok, Err, nat_lt, if◌then◌else◌, ⊤}
use Rattle.kernel_core.specs.Nodes.{Nodes, Listing, is_directory, listing_at, target_at}
use Rattle.kernel_core.specs.PathWalk.{Place, begins_with_slash, components, ends_with_slash, link_limit, name_limit, named}
use Rattle.kernel_core.specs.Queries.{Meaning, Wrong, Missing, Plain, Linked, node_meaning, named_meaning, listed_meaning, meaning, place, at_last, on_the_way, walked_from, walked_through, walked}
use Rattle.kernel_core.specs.ValidTree.{root}
use Rattle.kernel_core.specs.declared.error.Errno.TheVariants.{EBADF, ELOOP, ENAMETOOLONG, ENOENT, ENOTDIR}
use Rattle.kernel_model.specs.Descriptions.{opened, open_directory}
use Rattle.kernel_model.specs.Paths.{Base, Working, Descriptor, base_directory, directory_of, node_found, walk, walk_to_node, walked_by}
use Rattle.kernel_model.specs.Shared.{Errno}
use Rattle.kernel_model.specs.State.{Files}
use Rattle.kernel_model.specs.declared.descriptor.Description.{Description}
use Rattle.native_calls.proofs.Plain.{Fine, FineGiven, err_fine, fine_descriptor, fine_entry, fine_long, fine_loop, fine_no_directory, ok_fine, some_or_fine, test_fine}

-- Components

abbrev FineIfWrong : Meaning → Type 0
FineIfWrong (Wrong error) = Fine error
FineIfWrong Missing = ⊤
FineIfWrong (Plain node) = ⊤
FineIfWrong (Linked node target) = ⊤

record FineMeaning (meaning : Meaning) : Type 0 where
  pub fine : FineIfWrong meaning

node_fine : (node : ℕ) (target : Option (List ℕ)) → FineMeaning (node_meaning node target)
node_fine node None = record { fine = tt }
node_fine node (Some target) = record { fine = tt }

named_fine : (nodes : Nodes) (found : Option ℕ) → FineMeaning (named_meaning nodes found)
named_fine nodes None = record { fine = tt }
named_fine nodes (Some node) = node_fine node (target_at nodes node)

listed_fine : (nodes : Nodes) (at : ℕ) (name : List ℕ) (listing : Option Listing) → FineMeaning (listed_meaning nodes at name listing)
listed_fine nodes at name None = record { fine = fine_no_directory }
listed_fine nodes at name (Some listing) = named_fine nodes (named at listing name)

short_fine : (long : Bool) (found : Meaning) → FineMeaning found → FineMeaning (if long then Wrong ENAMETOOLONG else found)
short_fine true found fine = record { fine = fine_long }
short_fine false found fine = fine

meaning_fine : (nodes : Nodes) (at : ℕ) (name : List ℕ) → FineMeaning (meaning nodes at name)
meaning_fine nodes at name = short_fine (nat_lt name_limit (length name)) _ (listed_fine nodes at name (listing_at nodes at))

last_fine : (nodes : Nodes) (follow slash target_slash : Bool) (at : ℕ) (name : List ℕ) (through : List ℕ → Result Place Errno)
    → ((target : List ℕ) → FineGiven (through target)) → (found : Meaning) → FineMeaning found
    → FineGiven (at_last nodes follow slash target_slash at name through found)
last_fine nodes follow slash target_slash at name through onward (Wrong error) fine = err_fine error fine.fine
last_fine nodes follow slash target_slash at name through onward Missing fine =
    test_fine (target_slash && not slash) (Err ENOENT) (place at name None) (err_fine ENOENT fine_entry) (ok_fine _)
last_fine nodes follow slash target_slash at name through onward (Plain node) fine =
    test_fine ((slash || target_slash) && not (is_directory nodes node)) (Err ENOTDIR) (place at name (Some node)) (err_fine ENOTDIR fine_no_directory) (ok_fine _)
last_fine nodes follow slash target_slash at name through onward (Linked node target) fine =
    test_fine (slash || target_slash || follow) (through target) (place at name (Some node)) (onward target) (ok_fine _)

way_fine : (onward : ℕ → Result Place Errno) (through : List ℕ → Result Place Errno) → ((node : ℕ) → FineGiven (onward node))
    → ((target : List ℕ) → FineGiven (through target)) → (found : Meaning) → FineMeaning found → FineGiven (on_the_way onward through found)
way_fine onward through on_node on_target (Wrong error) fine = err_fine error fine.fine
way_fine onward through on_node on_target Missing fine = err_fine ENOENT fine_entry
way_fine onward through on_node on_target (Plain node) fine = on_node node
way_fine onward through on_node on_target (Linked node target) fine = on_target target

-- Walks

from_fine : (nodes : Nodes) (follow slash : Bool) (through : ℕ → List ℕ → List (List ℕ) → Bool → Result Place Errno)
    → ((at : ℕ) (target : List ℕ) (rest : List (List ℕ)) (target_slash : Bool) → FineGiven (through at target rest target_slash))
    → (at : ℕ) (rest : List (List ℕ)) (target_slash : Bool) → FineGiven (walked_from nodes follow slash through at rest target_slash)
unfolding walked_from
from_fine nodes follow slash through fine at [] target_slash = ok_fine _
from_fine nodes follow slash through fine at (name ∷ []) target_slash =
    last_fine nodes follow slash target_slash at name (λ target. through at target [] (target_slash || ends_with_slash target))
    (λ target. fine at target [] (target_slash || ends_with_slash target)) (meaning nodes at name) (meaning_fine nodes at name)
from_fine nodes follow slash through fine at (name ∷ next ∷ rest) target_slash =
    way_fine (λ node. walked_from nodes follow slash through node (next ∷ rest) target_slash) (λ target. through at target (next ∷ rest) target_slash)
    (λ node. from_fine nodes follow slash through fine node (next ∷ rest) target_slash) (λ target. fine at target (next ∷ rest) target_slash)
    (meaning nodes at name) (meaning_fine nodes at name)

through_fine : (count : ℕ) (nodes : Nodes) (follow slash : Bool) (at : ℕ) (target : List ℕ) (rest : List (List ℕ)) (target_slash : Bool)
    → FineGiven (walked_through count nodes follow slash at target rest target_slash)
unfolding walked_through
through_fine zero nodes follow slash at target rest target_slash = err_fine ELOOP fine_loop
through_fine (suc more) nodes follow slash at target rest target_slash =
    from_fine nodes follow slash (walked_through more nodes follow slash) (through_fine more nodes follow slash)
    (if begins_with_slash target then root else at) (components target ++ rest) target_slash

walked_fine : (nodes : Nodes) (from : ℕ) (path : List ℕ) (follow : Bool) → FineGiven (walked nodes from path follow)
unfolding walked
walked_fine nodes from [] follow = err_fine ENOENT fine_entry
walked_fine nodes from (byte ∷ bytes) follow =
    let slash = ends_with_slash (byte ∷ bytes) in
    from_fine nodes follow slash (walked_through link_limit nodes follow slash) (through_fine link_limit nodes follow slash)
    (if begins_with_slash (byte ∷ bytes) then root else from) (components (byte ∷ bytes)) false

-- Where a path begins

pub directory_fine : (nodes : Nodes) (found : Option Description) → FineGiven (directory_of nodes found)
directory_fine nodes None = err_fine EBADF fine_descriptor
directory_fine nodes (Some description) = some_or_fine (open_directory nodes description.object) ENOTDIR fine_no_directory

base_fine : (files : Files) (base : Base) → FineGiven (base_directory files base)
base_fine files Working = ok_fine _
base_fine files (Descriptor fd) = directory_fine files.nodes (opened files fd)

by_fine : (nodes : Nodes) (from : Result ℕ Errno) (path : List ℕ) (follow : Bool) → FineGiven from → FineGiven (walked_by nodes from path follow)
by_fine nodes (Err error) path follow fine = err_fine error fine.fine
by_fine nodes (Ok from) path follow fine = walked_fine nodes from path follow

pub walk_fine : (files : Files) (base : Base) (path : List ℕ) (follow : Bool) → FineGiven (walk files base path follow)
unfolding walk
walk_fine files base [] follow = err_fine ENOENT fine_entry
walk_fine files base (byte ∷ bytes) follow =
    by_fine files.nodes _ (byte ∷ bytes) follow
    (test_fine (begins_with_slash (byte ∷ bytes)) (Ok root) (base_directory files base) (ok_fine root) (base_fine files base))

found_fine : (found : Result Place Errno) → FineGiven found → FineGiven (node_found found)
found_fine (Err error) fine = err_fine error fine.fine
found_fine (Ok place) fine = some_or_fine place.node ENOENT fine_entry

pub to_node_fine : (files : Files) (base : Base) (path : List ℕ) (follow : Bool) → FineGiven (walk_to_node files base path follow)
to_node_fine files base path follow = found_fine (walk files base path follow) (walk_fine files base path follow)
