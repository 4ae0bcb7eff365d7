-- A walk under way as it is kept, with keys in place of numbers.
use Rattle.std.specs.Prelude.{◌≡◌, ℕ, true, ◌+◌, ◌-◌, ◌*◌, ◌<◌, ◌≤◌, ⊤, List, [], ◌∷◌, length, All, codes, Option, Some, None, option_map, Result, Ok, Err, if◌then◌else◌}
use Rattle.std.specs.FinMap.{get}
use Rattle.std.specs.Str.{bytes_eq}
use Rattle.kernel_core.specs.Nodes.{is_directory}
use Rattle.kernel_core.specs.PathWalk.{Walk, WalkStep, Ends, Goes, link_limit}
use Rattle.kernel_core.specs.ValidTree.{IsTarget}
use Rattle.kernel_core.specs.declared.core_error.CoreError.{CoreError}
use Rattle.kernel_core.specs.declared.core_error.CoreError.TheVariants.{Refused, Stop}
use Rattle.kernel_core.specs.declared.core_error.Stop.TheVariants.{NoMemory, ReadFault, WriteFault}
use Rattle.directory_names.specs.Names.{find_name}
use Rattle.directory_names.specs.declared.entry.NodeRef.{NodeRef}
use Rattle.native_vfs.specs.Keyed.{Keyed, number_at, IsLiveKey, AgreesAt, place_at}
use Rattle.native_vfs.specs.declared.place.Place.{Place as KeyedPlace}
use Rattle.native_vfs.specs.declared.stored.StoredContent.{StoredContent}
use Rattle.native_vfs.specs.declared.stored.StoredContent.TheVariants as kept
use Rattle.native_vfs.specs.declared.stored.StoredDirectory.{StoredDirectory}
use Rattle.native_vfs.specs.declared.walk.Found.{Found}
use Rattle.native_vfs.specs.declared.walk.Walk.{Walk as KeyedWalk}

-- What is kept at a key

-- the key of a reference stands for the node of its number
abbrev pub LeadsTo : Keyed → NodeRef → Type 0
LeadsTo system reference = get system.keys reference.key ≡ Some reference.number

abbrev pub OptionLeadsTo : Keyed → Option NodeRef → Type 0
OptionLeadsTo system None = ⊤
OptionLeadsTo system (Some reference) = LeadsTo system reference

pub record DirectoryLeadsTo (system : Keyed) (directory : StoredDirectory) : Type 0 where
  pub parent : OptionLeadsTo system directory.parent
  pub names : All (λ e. LeadsTo system (record { number = e.number; key = e.key })) directory.names.entries

-- what a walk relies on: references lead to their nodes, and a link has a target that a link may have
abbrev pub IsSound : Keyed → StoredContent → Type 0
IsSound system (kept.File content) = ⊤
IsSound system (kept.Directory directory) = DirectoryLeadsTo system directory
IsSound system (kept.Link target) = IsTarget target

abbrev pub key_of : NodeRef → ℕ
key_of reference = reference.key

-- the key of the node that a name names in a directory
abbrev pub named_key : ℕ → StoredDirectory → List ℕ → Option ℕ
named_key at directory [] = Some at
named_key at directory (byte ∷ bytes) =
    if bytes_eq (byte ∷ bytes) (codes ".") then Some at
    else (if bytes_eq (byte ∷ bytes) (codes "..") then option_map key_of directory.parent
    else option_map key_of (find_name directory.names.entries (byte ∷ bytes)))

-- The walk

abbrev pub walk_of : Keyed → KeyedWalk → Walk
walk_of system walk = record {
  at = number_at system walk.at;
  rest = walk.rest;
  slash = walk.slash;
  target_slash = walk.target_slash;
  links = walk.links;
}

abbrev pub found_place : Found → KeyedPlace
found_place found = record { dir = found.dir; name = found.name.now; node = found.node }

-- what was found agrees with the file system
abbrev pub IsFound : Keyed → Found → Type 0
IsFound system found = AgreesAt system (found_place found)

-- how many components a walk can take at most: those that are left, and fewer than 4096 of each link that it may still follow
abbrev pub steps_left : KeyedWalk → ℕ
steps_left walk = (link_limit - walk.links) * 4096 + length walk.rest

-- a walk that goes on stands at a live node, which is a directory where no component is left
pub record IsUnderWay (system : Keyed) (walk : KeyedWalk) : Type 0 where
  pub live : IsLiveKey system walk.at
  pub ends : walk.rest ≡ [] → is_directory system.nodes (number_at system walk.at) ≡ true
  pub links : walk.links ≤ link_limit

-- What a step answers, and the walk after it where it goes on, which then has fewer steps left than `most`.
abbrev pub Gives : Keyed → ℕ → WalkStep → KeyedWalk → Result (Option Found) CoreError → Type 0
Gives system most step after (Ok None) = (step ≡ Goes (walk_of system after)) × IsUnderWay system after × (steps_left after < most)
Gives system most step after (Ok (Some found)) = (step ≡ Ends (Ok (place_at system (found_place found)))) × IsFound system found
Gives system most step after (Err (Refused error)) = step ≡ Ends (Err error)
Gives system most step after (Err (Stop NoMemory)) = ⊤
Gives system most step after (Err (Stop ReadFault)) = ⊥
Gives system most step after (Err (Stop WriteFault)) = ⊥

-- the place with a copy of the name, for which there may be no memory
abbrev pub IsCopied : Found → Result KeyedPlace CoreError → Type 0
IsCopied found (Ok place) = place ≡ found_place found
IsCopied found (Err (Refused error)) = ⊥
IsCopied found (Err (Stop NoMemory)) = ⊤
IsCopied found (Err (Stop ReadFault)) = ⊥
IsCopied found (Err (Stop WriteFault)) = ⊥
