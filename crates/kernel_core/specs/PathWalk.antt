-- The walk of a path (path_resolution(7), symlink(7)). A path is cut at `/` into components, which are taken from the left. Where
-- this project has a rule of its own, it is marked so.
use Rattle.std.specs.Prelude.{◌≡◌, ◌≤◌, ℕ, zero, suc, ◌+◌, Bool, false, ◌||◌, ◌&&◌, not, ◌==◌, List, [], ◌∷◌, ◌++◌, length, Option, Some, None, Result, Ok, Err, nat_lt, if◌then◌else◌, option_map, codes, ◌<◌, slice_index}
use Rattle.std.specs.List.{list_any}
use Rattle.std.specs.Str.{bytes_eq}
use Rattle.kernel_core.specs.Nodes.{Nodes, Listing, listing_at, target_at, is_directory, entry_named}
use Rattle.kernel_core.specs.ValidTree.{root, is_no_name_byte}
use Rattle.kernel_core.specs.declared.error.Errno.{Errno}
use Rattle.kernel_core.specs.declared.error.Errno.TheVariants.{ENAMETOOLONG, ENOTDIR, ENOENT, ELOOP}

-- Paths

-- a component that is read, where it has a byte
abbrev pub closed : List ℕ → List (List ℕ) → List (List ℕ)
closed [] rest = rest
closed (byte ∷ bytes) rest = (byte ∷ bytes) ∷ rest

-- the components of a path of which the last one so far is read up to here
unfoldable pub components_after : List ℕ → List ℕ → List (List ℕ)
components_after name [] = closed name []
components_after name (byte ∷ rest) =
    if byte == 47 then closed name (components_after [] rest) else components_after (name ++ byte ∷ []) rest

-- the parts of a path between slashes; an empty part is none
abbrev pub components : List ℕ → List (List ℕ)
components path = components_after [] path

abbrev pub begins_with_slash : List ℕ → Bool
begins_with_slash [] = false
begins_with_slash (byte ∷ rest) = byte == 47

unfoldable pub ends_with_slash : List ℕ → Bool
ends_with_slash [] = false
ends_with_slash (byte ∷ []) = byte == 47
ends_with_slash (byte ∷ next ∷ rest) = ends_with_slash (next ∷ rest)

-- What a walk finds

-- where a path's last name stands: the number of the directory, the name, and the number of the node that it names, or none where
-- the name is not there
pub record Place : Type 0 where
  pub directory : ℕ
  pub name : List ℕ
  pub node : Option ℕ

-- the node that a name names in a directory: `.` and the empty name the directory itself, `..` its parent, which is none where it
-- was removed (own), and every other name the node of its entry
abbrev pub named : ℕ → Listing → List ℕ → Option ℕ
named directory listing [] = Some directory
named directory listing (byte ∷ bytes) =
    if bytes_eq (byte ∷ bytes) (codes ".") then Some directory
    else (if bytes_eq (byte ∷ bytes) (codes "..") then listing.parent
    else option_map (λ e. e.node) (entry_named listing.entries (byte ∷ bytes)))

-- A place that agrees with the nodes: its directory lives, and its name, of at most 255 bytes without `/` and NUL, names its node
-- there.
pub record Agrees (nodes : Nodes) (place : Place) : Type 0 where
  pub listing : Listing
  pub live : listing_at nodes place.directory ≡ Some listing
  pub names : place.node ≡ named place.directory listing place.name
  pub are_bytes : (at : ℕ) → slice_index place.name at < 256
  pub short : length place.name ≤ 255
  pub plain : list_any is_no_name_byte place.name ≡ false

-- The walk

-- the greatest number of symbolic links that a walk follows
abbrev pub link_limit : ℕ
link_limit = 40

-- the greatest length of a component (NAME_MAX)
abbrev pub name_limit : ℕ
name_limit = 255

-- a walk under way: the node where it stands, the components that are left, whether the path ends in a slash, whether the target
-- of a link in its last place does, and how many links it followed
pub record Walk : Type 0 where
  pub at : ℕ
  pub rest : List (List ℕ)
  pub slash : Bool
  pub target_slash : Bool
  pub links : ℕ

-- a walk ends with a place or an error, or goes on
pub data WalkStep : Type 0 where
  Ends : Result Place Errno → WalkStep
  Goes : Walk → WalkStep

abbrev pub found : ℕ → List ℕ → Option ℕ → WalkStep
found directory name node = Ends (Ok (record { directory = directory; name = name; node = node }))

-- A component that names no node: the last one may be missing, and every other must be there. Where a link's target ends in a
-- slash it needs a directory, so no name can be made there; of the path's own slash the caller knows (own).
abbrev pub at_missing : Walk → List ℕ → List (List ℕ) → WalkStep
at_missing walk name [] = if walk.target_slash && not walk.slash then Ends (Err ENOENT) else found walk.at name None
at_missing walk name (next ∷ rest) = Ends (Err ENOENT)

-- a component that names a directory or a file: the last one is found, and where the path ends in a slash it is a directory
abbrev pub at_node : Bool → Walk → List ℕ → List (List ℕ) → ℕ → WalkStep
at_node is_dir walk name [] node = if (walk.slash || walk.target_slash) && not is_dir then Ends (Err ENOTDIR) else found walk.at name (Some node)
at_node is_dir walk name (next ∷ rest) node = Goes (record walk { at = node; rest = next ∷ rest })

-- The link's target takes the component's place; from the root on where it begins with a slash. The forty-first link is ELOOP.
abbrev pub following : Walk → List ℕ → List (List ℕ) → Bool → WalkStep
following walk target rest target_slash =
    if walk.links == link_limit then Ends (Err ELOOP)
    else Goes (record {
      at = if begins_with_slash target then root else walk.at;
      rest = components target ++ rest;
      slash = walk.slash;
      target_slash = target_slash;
      links = walk.links + 1;
    })

-- a component that names a symbolic link: one that is not last, or before a slash, is followed (a last one before a slash by every
-- call: own), and the last one as the call says
abbrev pub at_link : Bool → Walk → List ℕ → List (List ℕ) → ℕ → List ℕ → WalkStep
at_link follow walk name [] node target =
    if walk.slash || walk.target_slash || follow then following walk target [] (walk.target_slash || ends_with_slash target)
    else found walk.at name (Some node)
at_link follow walk name (next ∷ rest) node target = following walk target (next ∷ rest) walk.target_slash

abbrev pub at_kind : Nodes → Bool → Walk → List ℕ → List (List ℕ) → ℕ → Option (List ℕ) → WalkStep
at_kind nodes follow walk name rest node None = at_node (is_directory nodes node) walk name rest node
at_kind nodes follow walk name rest node (Some target) = at_link follow walk name rest node target

abbrev pub at_named : Nodes → Bool → Walk → List ℕ → List (List ℕ) → Option ℕ → WalkStep
at_named nodes follow walk name rest None = at_missing walk name rest
at_named nodes follow walk name rest (Some node) = at_kind nodes follow walk name rest node (target_at nodes node)

-- a component is looked up in a directory
abbrev pub in_listing : Nodes → Bool → Walk → List ℕ → List (List ℕ) → Option Listing → WalkStep
in_listing nodes follow walk name rest None = Ends (Err ENOTDIR)
in_listing nodes follow walk name rest (Some listing) = at_named nodes follow walk name rest (named walk.at listing name)

-- One component; with none, which only a path of slashes leaves, the path names the root. ENAMETOOLONG comes before ENOTDIR (own).
abbrev pub at_component : Nodes → Bool → Walk → List (List ℕ) → WalkStep
at_component nodes follow walk [] = found walk.at [] (Some walk.at)
at_component nodes follow walk (name ∷ rest) =
    if nat_lt name_limit (length name) then Ends (Err ENAMETOOLONG)
    else in_listing nodes follow walk name rest (listing_at nodes walk.at)

unfoldable pub walk_step : Nodes → Bool → Walk → WalkStep
walk_step nodes follow walk = at_component nodes follow walk walk.rest

-- a walk ends, after some steps, with this place or error
unfoldable pub EndsAfter : ℕ → Nodes → Bool → WalkStep → Result Place Errno → Type 0
EndsAfter count nodes follow (Ends answer) result = answer ≡ result
EndsAfter zero nodes follow (Goes walk) result = ⊥
EndsAfter (suc count) nodes follow (Goes walk) result = EndsAfter count nodes follow (walk_step nodes follow walk) result

-- the walk of a path from a directory on, or from the root where the path begins with a slash. An empty path is ENOENT.
abbrev pub begin : ℕ → List ℕ → WalkStep
begin from [] = Ends (Err ENOENT)
begin from (byte ∷ bytes) = Goes (record {
  at = if begins_with_slash (byte ∷ bytes) then root else from;
  rest = components (byte ∷ bytes);
  slash = ends_with_slash (byte ∷ bytes);
  target_slash = false;
  links = 0;
})

-- The relation: what the walk of a path gives. `follow` says whether a last link is followed.
abbrev pub Walks : Nodes → ℕ → List ℕ → Bool → Result Place Errno → Type 0
Walks nodes from path follow result = (count : ℕ) × EndsAfter count nodes follow (begin from path) result
