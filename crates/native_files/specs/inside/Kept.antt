-- What the files of a process keep: which node each description has open, that the working directory is one, that a node is held as
-- often as it is open or the working directory, and that the nodes are a file system.
use Rattle.std.specs.Prelude.{◌≡◌, ℕ, ◌+◌, ◌==◌, List, length, Option, Some, option_and_then, count_by, slice_index, if◌then◌else◌}
use Rattle.std.specs.FinMap.{get}
use Rattle.kernel_core.specs.FileSystem.{IsFileSystem}
use Rattle.kernel_core.specs.Queries.{DirectoryKind, holds_at, kind_at}
use Rattle.kernel_model.specs.Always.{has_open, is_node}
use Rattle.kernel_model.specs.Descriptions.{node_of}
use Rattle.kernel_model.specs.Table.{slot}
use Rattle.kernel_model.specs.declared.descriptor.Description.{Description}
use Rattle.native_vfs.specs.Keyed.{Keyed, number_at, IsLiveKey}

-- the number of the node that a description has open
abbrev pub node_in : Option Description → Option ℕ
node_in description = option_and_then (λ d. node_of d.object) description

-- how many descriptions have the node open, and whether it is the working directory
abbrev pub holders_in : List (Option Description) → ℕ → ℕ → ℕ
holders_in live home node = count_by (has_open (is_node node)) live + (if home == node then 1 else 0)

-- The key of each node that a description has open stands by the number of that description.
pub record AreKeyed (system : Keyed) (live : List (Option Description)) (keys : List ℕ) : Type 0 where
  pub sized : length keys ≡ 1024
  pub leads : (number node : ℕ) → node_in (slot live number) ≡ Some node → get system.keys (slice_index keys number) ≡ Some node

pub record AreKept (system : Keyed) (live : List (Option Description)) (keys : List ℕ) (directory : ℕ) : Type 0 where
  pub keyed : AreKeyed system live keys
  pub home : IsLiveKey system directory
  pub home_kind : kind_at system.nodes (number_at system directory) ≡ Some DirectoryKind
  pub holds : (node : ℕ) → holds_at system.nodes node ≡ holders_in live (number_at system directory) node
  pub valid : IsFileSystem system.nodes
