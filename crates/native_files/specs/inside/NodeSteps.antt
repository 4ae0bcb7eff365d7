-- Parts of the rows on nodes, by what was looked up.
use Rattle.std.specs.FinMap.{get}
use Rattle.std.specs.Prelude.{◌≡◌, ℕ, ℤ, ◌&&◌, Bool, true, false, List, Option, Some, None, Result, Ok, Err}
use Rattle.kernel_core.specs.NodeCalls.{resize_refusal}
use Rattle.kernel_core.specs.Nodes.{Nodes, NodeContent, File, Directory, Link}
use Rattle.kernel_core.specs.declared.core_error.CoreError.{CoreError}
use Rattle.kernel_core.specs.declared.core_error.CoreError.TheVariants as errors
use Rattle.kernel_core.specs.declared.error.Errno.{Errno}
use Rattle.kernel_core.specs.declared.error.Errno.TheVariants.{EACCES, EINVAL, EISDIR}
use Rattle.kernel_model.specs.Came.{Did, done, refused_if, with_given, with_some}
use Rattle.kernel_model.specs.Descriptions.{content_at, node_of, writable}
use Rattle.kernel_model.specs.NodeRows.{is_not_executable, truncate_content}
use Rattle.kernel_model.specs.Paths.{Base, walk_to_node}
use Rattle.kernel_model.specs.State.{Files}

-- A call that takes no memory: it is done where there is no reason to refuse it, and refused with the reason where there is one.
abbrev pub ChangesSurely : {V : Type 0} → Nodes → Option Errno → Nodes → Result V Errno → Nodes → Type 0
ChangesSurely old refusal after (Ok value) new = (refusal ≡ None) × (new ≡ after)
ChangesSurely old refusal after (Err error) new = (refusal ≡ Some error) × (new ≡ old)

-- its answer, as that of a call that may
abbrev pub wide : Result (Unit {0}) Errno → Result (Unit {0}) CoreError
wide (Ok value) = Ok value
wide (Err error) = Err (errors.Refused error)

-- Sizes

-- why a node does not get another size
abbrev pub truncate_refusal : ℕ → Option NodeContent → Option Errno
truncate_refusal size None = Some EINVAL
truncate_refusal size (Some (File content)) = resize_refusal size
truncate_refusal size (Some (Directory listing)) = Some EISDIR
truncate_refusal size (Some (Link target)) = Some EINVAL

-- truncate(2) by a path and a size that is not below 0
abbrev pub truncate_by_path : Files → ℤ → Base → List ℕ → ℕ → Did Files (Unit {0})
truncate_by_path files now base path size =
    with_given files (walk_to_node files base path true) (λ node.
    truncate_content files now node size (content_at files.nodes node))

-- ftruncate(2) by a descriptor that is open, and a size that is not below 0
abbrev pub truncate_writable : Files → ℤ → ℕ → ℕ → Did Files (Unit {0})
truncate_writable files now fd size =
    with_some files EINVAL (writable files fd) (λ description.
    with_some files EINVAL (node_of description.object) (λ node.
    truncate_content files now node size (content_at files.nodes node)))

-- Access

abbrev pub access_answer : Bool → Result (Unit {0}) CoreError
access_answer true = Err (errors.Refused EACCES)
access_answer false = Ok tt

-- access(2) by a path, and whether it is to execute
abbrev pub access_by_path : Files → Base → List ℕ → Bool → Did Files (Unit {0})
access_by_path files base path execute =
    with_given files (walk_to_node files base path true) (λ node.
    refused_if (execute && is_not_executable (get files.nodes node)) EACCES files (
    done files tt))
