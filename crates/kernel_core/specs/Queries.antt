-- What a file system is asked before it changes, as functions: where a path leads (path_resolution(7), symlink(7)), which number a
-- new node gets, and of what kind a node is and how often it is held (inode(7)).
use Rattle.std.specs.Prelude.{◌≡◌, ℕ, zero, suc, ◌+◌, ◌≤◌, Bool, true, false, ◌||◌, ◌&&◌, not, ◌==◌, List, [], ◌∷◌, ◌++◌, length, Option, Some, None, is_some, option_map, Result, Ok, Err, nat_lt, if◌then◌else◌}
use Rattle.std.specs.FinMap.{get, len}
use Rattle.kernel_core.specs.Nodes.{Nodes, Inode, NodeContent, File, Directory, Link, Listing, listing_at, target_at, is_directory}
use Rattle.kernel_core.specs.PathWalk.{Place, named, components, begins_with_slash, ends_with_slash, link_limit, name_limit}
use Rattle.kernel_core.specs.ValidTree.{root}
use Rattle.kernel_core.specs.declared.error.Errno.{Errno}
use Rattle.kernel_core.specs.declared.error.Errno.TheVariants.{ENAMETOOLONG, ENOTDIR, ENOENT, ELOOP}

-- What a component means

-- A component can't be looked up, or names no node, a directory or a regular file, or a symbolic link with its target.
pub data Meaning : Type 0 where
  Wrong : Errno → Meaning
  Missing : Meaning
  Plain : ℕ → Meaning
  Linked : ℕ → List ℕ → Meaning

abbrev pub node_meaning : ℕ → Option (List ℕ) → Meaning
node_meaning node None = Plain node
node_meaning node (Some target) = Linked node target

abbrev pub named_meaning : Nodes → Option ℕ → Meaning
named_meaning nodes None = Missing
named_meaning nodes (Some node) = node_meaning node (target_at nodes node)

abbrev pub listed_meaning : Nodes → ℕ → List ℕ → Option Listing → Meaning
listed_meaning nodes at name None = Wrong ENOTDIR
listed_meaning nodes at name (Some listing) = named_meaning nodes (named at listing name)

-- what a component means at a node
abbrev pub meaning : Nodes → ℕ → List ℕ → Meaning
meaning nodes at name =
    if nat_lt name_limit (length name) then Wrong ENAMETOOLONG else listed_meaning nodes at name (listing_at nodes at)

-- Where a path leads. `slash` says whether the path ends in a slash, and `target_slash` whether the target of a link that stood in its
-- last place does.

abbrev pub place : ℕ → List ℕ → Option ℕ → Result Place Errno
place at name node = Ok (record { directory = at; name = name; node = node })

-- the last component, from whose target the walk goes on where it is a link that is followed
abbrev pub at_last : Nodes → Bool → Bool → Bool → ℕ → List ℕ → (List ℕ → Result Place Errno) → Meaning → Result Place Errno
at_last nodes follow slash target_slash at name through (Wrong error) = Err error
at_last nodes follow slash target_slash at name through Missing = if target_slash && not slash then Err ENOENT else place at name None
at_last nodes follow slash target_slash at name through (Plain node) =
    if (slash || target_slash) && not (is_directory nodes node) then Err ENOTDIR else place at name (Some node)
at_last nodes follow slash target_slash at name through (Linked node target) =
    if slash || target_slash || follow then through target else place at name (Some node)

-- a component before others, from whose node or target the walk goes on
abbrev pub on_the_way : (ℕ → Result Place Errno) → (List ℕ → Result Place Errno) → Meaning → Result Place Errno
on_the_way onward through (Wrong error) = Err error
on_the_way onward through Missing = Err ENOENT
on_the_way onward through (Plain node) = onward node
on_the_way onward through (Linked node target) = through target

-- where components lead from a node on. `through` walks on from a link: from where it stands, by its target and the components behind
-- it, with the slash of targets so far.
unfoldable pub walked_from : Nodes → Bool → Bool → (ℕ → List ℕ → List (List ℕ) → Bool → Result Place Errno) → ℕ → List (List ℕ) → Bool → Result Place Errno
walked_from nodes follow slash through at [] target_slash = place at [] (Some at)
walked_from nodes follow slash through at (name ∷ []) target_slash =
    at_last nodes follow slash target_slash at name (λ target. through at target [] (target_slash || ends_with_slash target)) (meaning nodes at name)
walked_from nodes follow slash through at (name ∷ next ∷ rest) target_slash =
    on_the_way
    (λ node. walked_from nodes follow slash through node (next ∷ rest) target_slash)
    (λ target. through at target (next ∷ rest) target_slash)
    (meaning nodes at name)

-- where a link's target and the components behind it lead, where so many links may be followed
unfoldable pub walked_through : ℕ → Nodes → Bool → Bool → ℕ → List ℕ → List (List ℕ) → Bool → Result Place Errno
walked_through zero nodes follow slash at target rest target_slash = Err ELOOP
walked_through (suc more) nodes follow slash at target rest target_slash =
    walked_from nodes follow slash (walked_through more nodes follow slash)
    (if begins_with_slash target then root else at) (components target ++ rest) target_slash

-- Where the walk of a path from a directory leads, or the error that it ends with. `follow` says whether a link in the last place is
-- followed. It is the answer of the relation `Walks`.
unfoldable pub walked : Nodes → ℕ → List ℕ → Bool → Result Place Errno
walked nodes from [] follow = Err ENOENT
walked nodes from (byte ∷ bytes) follow =
    let slash = ends_with_slash (byte ∷ bytes) in
    walked_from nodes follow slash (walked_through link_limit nodes follow slash)
    (if begins_with_slash (byte ∷ bytes) then root else from) (components (byte ∷ bytes)) false

-- Which number a new node gets

-- the first number from this one on that no live node has, or the one behind so many
unfoldable pub unused_from : ℕ → Nodes → ℕ → ℕ
unused_from zero nodes number = number
unused_from (suc more) nodes number = if is_some (get nodes number) then unused_from more nodes (number + 1) else number

-- the least number from 2 on that no live node has (at most as many numbers are taken as there are live nodes)
abbrev pub new_number : Nodes → ℕ
new_number nodes = unused_from (len nodes) nodes 2

-- Kinds and holds

-- a regular file, a directory or a symbolic link
pub data NodeKind : Type 0 where
  FileKind : NodeKind
  DirectoryKind : NodeKind
  LinkKind : NodeKind

abbrev pub kind_of : NodeContent → NodeKind
kind_of (File content) = FileKind
kind_of (Directory listing) = DirectoryKind
kind_of (Link target) = LinkKind

-- the kind of a node, where it lives
abbrev pub kind_at : Nodes → ℕ → Option NodeKind
kind_at nodes number = option_map (λ i. kind_of i.content) (get nodes number)

abbrev pub holds_in : Option Inode → ℕ
holds_in None = 0
holds_in (Some inode) = inode.holds

-- how often a node is held: not at all where it does not live
abbrev pub holds_at : Nodes → ℕ → ℕ
holds_at nodes number = holds_in (get nodes number)

-- each node is held as often as before
abbrev pub KeepsHolds : Nodes → Nodes → Type 0
KeepsHolds old new = (number : ℕ) → holds_at new number ≡ holds_at old number

-- the holds of one node change, and every other node is held as often as before
abbrev pub ChangesHolds : Nodes → Nodes → ℕ → (ℕ → ℕ) → Type 0
ChangesHolds old new node change =
    (number : ℕ) → holds_at new number ≡ (if number == node then change (holds_at old number) else holds_at old number)

-- a node that lives before and after keeps its kind
abbrev pub KeepsKinds : Nodes → Nodes → Type 0
KeepsKinds old new =
    (number : ℕ) → is_some (get old number) ≡ true → is_some (get new number) ≡ true → kind_at new number ≡ kind_at old number

-- Held nodes live on: a node that is held before and after a call lives, and is of the kind that it was.
abbrev pub LiveOn : Nodes → Nodes → Type 0
LiveOn old new =
    (number : ℕ) → 1 ≤ holds_at old number → 1 ≤ holds_at new number
    → (is_some (get new number) ≡ true) × (kind_at new number ≡ kind_at old number)
