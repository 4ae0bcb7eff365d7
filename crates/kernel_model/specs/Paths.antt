-- Where a path leads from (path_resolution(7), openat(2)).
use Rattle.std.specs.Prelude.{ℕ, Bool, ◌&&◌, List, [], ◌∷◌, Option, Some, None, is_none, ok_or, Result, Ok, Err, if◌then◌else◌}
use Rattle.kernel_core.specs.Nodes.{Nodes}
use Rattle.kernel_core.specs.PathWalk.{Place, begins_with_slash, ends_with_slash}
use Rattle.kernel_core.specs.Queries.{walked}
use Rattle.kernel_core.specs.ValidTree.{root}
use Rattle.kernel_core.specs.declared.error.Errno.TheVariants.{EBADF, ENOENT, ENOTDIR}
use Rattle.kernel_model.specs.Descriptions.{opened, open_directory}
use Rattle.kernel_model.specs.Shared.{Errno}
use Rattle.kernel_model.specs.State.{Files}
use Rattle.kernel_model.specs.declared.descriptor.Description.{Description}

-- where a path that does not begin with a slash begins: the working directory (AT_FDCWD), or a descriptor's directory
pub data Base : Type 0 where
  Working : Base
  Descriptor : ℕ → Base

abbrev pub directory_of : Nodes → Option Description → Result ℕ Errno
directory_of nodes None = Err EBADF
directory_of nodes (Some description) = ok_or (open_directory nodes description.object) ENOTDIR

abbrev pub base_directory : Files → Base → Result ℕ Errno
base_directory files Working = Ok files.directory
base_directory files (Descriptor fd) = directory_of files.nodes (opened files fd)

abbrev pub walked_by : Nodes → Result ℕ Errno → List ℕ → Bool → Result Place Errno
walked_by nodes (Err error) path follow = Err error
walked_by nodes (Ok from) path follow = walked nodes from path follow

-- Where a path leads. An empty path is ENOENT and one that begins with a slash begins at the root, whatever the base is.
unfoldable pub walk : Files → Base → List ℕ → Bool → Result Place Errno
walk files base [] follow = Err ENOENT
walk files base (byte ∷ bytes) follow =
    walked_by files.nodes (if begins_with_slash (byte ∷ bytes) then Ok root else base_directory files base) (byte ∷ bytes) follow

abbrev pub node_found : Result Place Errno → Result ℕ Errno
node_found (Err error) = Err error
node_found (Ok place) = ok_or place.node ENOENT

-- the node that a path names, which is ENOENT where it isn't there
abbrev pub walk_to_node : Files → Base → List ℕ → Bool → Result ℕ Errno
walk_to_node files base path follow = node_found (walk files base path follow)

-- A name that is missing, at the end of a path that ends in a slash: no call makes it but those that make or move a directory (own).
abbrev pub is_missing_before_slash : List ℕ → Place → Bool
is_missing_before_slash path place = is_none place.node && ends_with_slash path
