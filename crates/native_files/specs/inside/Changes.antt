-- What a call on names does to the nodes.
use Rattle.std.specs.Prelude.{◌≡◌, ℕ, ⊤, Bool, List, if◌then◌else◌, Option, Some, None, Result, Ok, Err}
use Rattle.kernel_core.specs.NameCalls.{link_refusal, rename_refusal, symlink_refusal}
use Rattle.kernel_core.specs.Nodes.{Nodes, is_directory}
use Rattle.kernel_core.specs.PathWalk.{Place}
use Rattle.kernel_core.specs.declared.core_error.CoreError.{CoreError}
use Rattle.kernel_core.specs.declared.core_error.CoreError.TheVariants as errors
use Rattle.kernel_core.specs.declared.core_error.Stop.TheVariants as stops
use Rattle.kernel_core.specs.declared.error.Errno.{Errno}
use Rattle.kernel_core.specs.declared.error.Errno.TheVariants.{ENOENT, EPERM}
use Rattle.kernel_model.specs.NameRows.{makes_file_before_slash}
use Rattle.kernel_model.specs.Paths.{is_missing_before_slash}

-- It is done where there is no reason to refuse it, and refused with the reason where there is one, or memory ran out.
abbrev pub Changes : {V : Type 0} → Nodes → Option Errno → Nodes → Result V CoreError → Nodes → Type 0
Changes old refusal after (Ok value) new = (refusal ≡ None) × (new ≡ after)
Changes old refusal after (Err (errors.Refused error)) new = (refusal ≡ Some error) × (new ≡ old)
Changes old refusal after (Err (errors.Stop stops.NoMemory)) new = ⊤
Changes old refusal after (Err (errors.Stop stops.ReadFault)) new = ⊥
Changes old refusal after (Err (errors.Stop stops.WriteFault)) new = ⊥

-- Reasons, of which that of the path comes before those of the nodes

abbrev pub first_reason : Bool → Errno → Option Errno → Option Errno
first_reason wrong error rest = if wrong then Some error else rest

abbrev pub make_link_reason : Nodes → List ℕ → Place → List ℕ → Option Errno
make_link_reason nodes path place target = first_reason (is_missing_before_slash path place) ENOENT (symlink_refusal nodes place target)

abbrev pub link_reason : Nodes → ℕ → List ℕ → Place → Option Errno
link_reason nodes node path place =
    first_reason (is_directory nodes node) EPERM (first_reason (is_missing_before_slash path place) ENOENT (link_refusal nodes node place))

abbrev pub rename_reason : Nodes → ℕ → Place → List ℕ → Place → Option Errno
rename_reason nodes moved from path to =
    first_reason (makes_file_before_slash nodes moved from path to) ENOENT (rename_refusal nodes from to)
