-- Which node is opened, before a description leads to it.
use Rattle.std.specs.Prelude.{◌≡◌, ℕ, ◌&&◌, not, ⊤, ℤ, List, Option, Some, None, Result, Ok, Err, if◌then◌else◌}
use Rattle.kernel_core.specs.NameCalls.{after_create, make_refusal}
use Rattle.kernel_core.specs.NodeCalls.{after_resize, held}
use Rattle.kernel_core.specs.Nodes.{Nodes, update}
use Rattle.kernel_core.specs.PathWalk.{Place}
use Rattle.kernel_core.specs.Queries.{new_number}
use Rattle.kernel_core.specs.declared.core_error.CoreError.{CoreError}
use Rattle.kernel_core.specs.declared.core_error.CoreError.TheVariants as errors
use Rattle.kernel_core.specs.declared.core_error.Stop.TheVariants as stops
use Rattle.kernel_core.specs.declared.error.Errno.{Errno}
use Rattle.kernel_core.specs.declared.error.Errno.TheVariants.{EEXIST, ENOENT}
use Rattle.kernel_model.specs.Descriptions.{content_at, description_of}
use Rattle.kernel_model.specs.Opening.{kind_refusal}
use Rattle.kernel_model.specs.Paths.{is_missing_before_slash}
use Rattle.kernel_model.specs.Shared.{OpenSet}
use Rattle.kernel_model.specs.State.{Descriptors}
use Rattle.kernel_model.specs.Table.{inserted}
use Rattle.kernel_model.specs.declared.descriptor.Description.{Description}
use Rattle.kernel_model.specs.declared.descriptor.Object.TheVariants as objects
use Rattle.native_files.specs.inside.Kept.{AreKept}
use Rattle.native_vfs.specs.Keyed.{IsLiveKey, Keyed, number_at}

-- a node that may be opened, and the nodes then
pub record Opened : Type 0 where
  pub nodes : Nodes
  pub node : ℕ

abbrev pub unless_refused : Option Errno → Opened → Result Opened Errno
unless_refused None found = Ok found
unless_refused (Some error) found = Err error

-- a name that is not there, which is made with these mode bits
abbrev pub opened_missing : Nodes → ℤ → List ℕ → OpenSet → ℕ → Place → Result Opened Errno
opened_missing nodes now path flags mode place =
    if not flags.creat then Err ENOENT
    else (if is_missing_before_slash path place then Err ENOENT
    else unless_refused (make_refusal nodes place) (record { nodes = after_create nodes place (new_number nodes) mode now; node = new_number nodes }))

-- a node that is there, which is cut to no byte
abbrev pub opened_node : Nodes → ℤ → OpenSet → ℕ → Result Opened Errno
opened_node nodes now flags node =
    if flags.creat && flags.excl then Err EEXIST
    else unless_refused (kind_refusal None flags (content_at nodes node))
    (record { nodes = if flags.trunc then after_resize nodes node 0 now else nodes; node = node })

abbrev pub opened_at : Nodes → ℤ → List ℕ → OpenSet → ℕ → Place → Option ℕ → Result Opened Errno
opened_at nodes now path flags mode place None = opened_missing nodes now path flags mode place
opened_at nodes now path flags mode place (Some node) = opened_node nodes now flags node

-- the key of the node, or why there is none, or memory ran out
abbrev pub Opens : Nodes → Result Opened Errno → Result ℕ CoreError → Keyed → Type 0
Opens old found (Ok key) new = (found ≡ Ok (record { nodes = new.nodes; node = number_at new key })) × IsLiveKey new key
Opens old found (Err (errors.Refused error)) new = (found ≡ Err error) × (new.nodes ≡ old)
Opens old found (Err (errors.Stop stops.NoMemory)) new = ⊤
Opens old found (Err (errors.Stop stops.ReadFault)) new = ⊥
Opens old found (Err (errors.Stop stops.WriteFault)) new = ⊥

-- a descriptor that leads to the node, or why there is none, or memory ran out
abbrev pub OpensAt : Nodes → Descriptors Description → Result Opened Errno → ℕ → OpenSet → Result (Unit {0}) CoreError → Nodes → Descriptors Description → Type 0
OpensAt nodes table found fd flags (Ok done) new_nodes new_table =
    (opened : Opened) × (found ≡ Ok opened) × (new_nodes ≡ update opened.nodes opened.node held)
    × (new_table ≡ inserted table fd (description_of (objects.Node opened.node) flags) flags.cloexec)
OpensAt nodes table found fd flags (Err (errors.Refused error)) new_nodes new_table = (found ≡ Err error) × (new_nodes ≡ nodes) × (new_table ≡ table)
OpensAt nodes table found fd flags (Err (errors.Stop stops.NoMemory)) new_nodes new_table = ⊤
OpensAt nodes table found fd flags (Err (errors.Stop stops.ReadFault)) new_nodes new_table = ⊥
OpensAt nodes table found fd flags (Err (errors.Stop stops.WriteFault)) new_nodes new_table = ⊥

-- what the files keep still holds, and the working directory is the node that it was
pub record StaysKept (old new : Keyed) (live : List (Option Description)) (keys : List ℕ) (directory : ℕ) : Type 0 where
  pub kept : AreKept new live keys directory
  pub home : number_at new directory ≡ number_at old directory
