-- Where paths lead by the keys of nodes.
use Rattle.std.specs.Prelude.{◌≡◌, ℕ, true, ⊤, Bool, List, [], ◌∷◌, Result, Ok, Err, if◌then◌else◌}
use Rattle.kernel_core.specs.Nodes.{Nodes, is_directory}
use Rattle.kernel_core.specs.PathWalk.{Place, begins_with_slash}
use Rattle.kernel_core.specs.ValidTree.{root}
use Rattle.kernel_core.specs.declared.core_error.CoreError.{CoreError}
use Rattle.kernel_core.specs.declared.core_error.CoreError.TheVariants as errors
use Rattle.kernel_core.specs.declared.core_error.Stop.TheVariants as stops
use Rattle.kernel_core.specs.declared.error.Errno.{Errno}
use Rattle.kernel_core.specs.declared.error.Errno.TheVariants.{ENOENT}
use Rattle.kernel_model.specs.Paths.{Base, Working, Descriptor, directory_of, walked_by}
use Rattle.kernel_model.specs.State.{Descriptors}
use Rattle.kernel_model.specs.Table.{description_at}
use Rattle.kernel_model.specs.declared.descriptor.Description.{Description}
use Rattle.native_vfs.specs.Keyed.{AgreesAt, IsLiveKey, Keyed, number_at, place_at}
use Rattle.native_vfs.specs.declared.place.Place.{Place as KeyedPlace}

-- where a path begins that does not begin with a slash, by what the files of `kernel_model` have of it
abbrev pub base_in : Nodes → Descriptors Description → ℕ → Base → Result ℕ Errno
base_in nodes table home Working = Ok home
base_in nodes table home (Descriptor fd) = directory_of nodes (description_at table fd)

-- where a path leads
abbrev pub walk_in : Nodes → Descriptors Description → ℕ → Base → List ℕ → Bool → Result Place Errno
walk_in nodes table home base [] follow = Err ENOENT
walk_in nodes table home base (byte ∷ bytes) follow =
    walked_by nodes (if begins_with_slash (byte ∷ bytes) then Ok root else base_in nodes table home base) (byte ∷ bytes) follow

-- the key of a directory, or why there is none
abbrev pub BeginsAt : Keyed → Result ℕ Errno → Result ℕ Errno → Type 0
BeginsAt system begin (Ok key) =
    (begin ≡ Ok (number_at system key)) × IsLiveKey system key × (is_directory system.nodes (number_at system key) ≡ true)
BeginsAt system begin (Err error) = begin ≡ Err error

-- the place by keys, or why there is none, or memory ran out
abbrev pub LeadsTo : Keyed → Result Place Errno → Result KeyedPlace CoreError → Type 0
LeadsTo system walked (Ok place) = (walked ≡ Ok (place_at system place)) × AgreesAt system place
LeadsTo system walked (Err (errors.Refused error)) = walked ≡ Err error
LeadsTo system walked (Err (errors.Stop stops.NoMemory)) = ⊤
LeadsTo system walked (Err (errors.Stop stops.ReadFault)) = ⊥
LeadsTo system walked (Err (errors.Stop stops.WriteFault)) = ⊥

-- the same of the node that a path names
abbrev pub FindsNode : Keyed → Result ℕ Errno → Result ℕ CoreError → Type 0
FindsNode system found (Ok key) = (found ≡ Ok (number_at system key)) × IsLiveKey system key
FindsNode system found (Err (errors.Refused error)) = found ≡ Err error
FindsNode system found (Err (errors.Stop stops.NoMemory)) = ⊤
FindsNode system found (Err (errors.Stop stops.ReadFault)) = ⊥
FindsNode system found (Err (errors.Stop stops.WriteFault)) = ⊥
