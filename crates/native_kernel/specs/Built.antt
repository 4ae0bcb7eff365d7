-- The calls of the table in the groups in which they are looked for. (The groups are this project's own.)
use Rattle.std.specs.Prelude.{ℕ, List, [], ◌∷◌, Option, None}
use Rattle.kernel_model.specs.State.{Kernel}
use Rattle.native_calls.specs.Clocks.{clock_calls}
use Rattle.native_calls.specs.Descriptors.{descriptor_calls}
use Rattle.native_calls.specs.Ids.{id_calls}
use Rattle.native_calls.specs.Names.{name_calls}
use Rattle.native_calls.specs.Nodes.{node_calls}
use Rattle.native_calls.specs.Polls.{poll_calls}
use Rattle.native_calls.specs.Signals.{signal_calls}
use Rattle.native_calls.specs.Status.{status_calls}
use Rattle.native_calls.specs.Step.{NativeStep, NativeCall}
use Rattle.native_calls.specs.System.{system_calls}
use Rattle.native_calls.specs.Table.{call_in, step_of}
use Rattle.native_calls.specs.Terminal.{terminal_calls}
use Rattle.native_calls.specs.Transfers.{transfer_calls}

-- the call of a number in these groups
abbrev pub call_among : List (List NativeCall) → ℕ → Option NativeCall
call_among [] number = None
call_among (calls ∷ groups) number = call_in calls (call_among groups number) number

-- The groups that there are. Each list begins with groups of its own, and goes on with the list before it.

abbrev pub poll_groups : List (List NativeCall)
poll_groups = poll_calls ∷ []

abbrev pub signal_groups : List (List NativeCall)
signal_groups = signal_calls ∷ poll_groups

abbrev pub system_groups : List (List NativeCall)
system_groups = system_calls ∷ clock_calls ∷ signal_groups

abbrev pub node_groups : List (List NativeCall)
node_groups = node_calls ∷ system_groups

abbrev pub name_groups : List (List NativeCall)
name_groups = name_calls ∷ node_groups

abbrev pub status_groups : List (List NativeCall)
status_groups = status_calls ∷ id_calls ∷ name_groups

abbrev pub descriptor_groups : List (List NativeCall)
descriptor_groups = descriptor_calls ∷ terminal_calls ∷ status_groups

abbrev pub built_groups : List (List NativeCall)
built_groups = transfer_calls ∷ descriptor_groups

-- What a call of these groups does. Any other number is ENOSYS.
abbrev pub call_of_groups : List (List NativeCall) → ℕ → List ℕ → Kernel → List ℕ → List ℕ → NativeStep
call_of_groups groups number args kernel memory left = step_of (call_among groups number) args kernel memory left

-- What a call does: it is that of the whole table, and any other number is ENOSYS.
abbrev pub built_call : ℕ → List ℕ → Kernel → List ℕ → List ℕ → NativeStep
built_call number args kernel memory left = call_of_groups built_groups number args kernel memory left
