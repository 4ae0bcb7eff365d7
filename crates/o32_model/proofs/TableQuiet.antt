-- A call that fails moves nothing: the whole table.
use Rattle.std.specs.Prelude.{◌≡◌, ◌≢◌, ℕ, false, List, Option, Some, None}
use Rattle.kernel_core.specs.declared.error.Errno.TheVariants.{ENOSYS}
use Rattle.kernel_model.specs.Came.{refused}
use Rattle.kernel_model.specs.State.{Kernel}
use Rattle.o32_model.proofs.FileQuiet.{opening_quiet, status_quiet, entries_quiet, names_quiet, nodes_quiet}
use Rattle.o32_model.proofs.MapQuiet.{mappings_quiet}
use Rattle.o32_model.proofs.Quiet.{Quiet, QuietIfAny, gives_quiet, in_quiet, transfers_quiet, descriptors_quiet, terminal_quiet, small_quiet}
use Rattle.o32_model.proofs.SignalQuiet.{signals_quiet}
use Rattle.o32_model.proofs.WaitQuiet.{waits_quiet}
use Rattle.o32_model.specs.Descriptors.{descriptor_calls}
use Rattle.o32_model.specs.Entries.{entry_calls}
use Rattle.o32_model.specs.Laws.{mprotect_number, stores_in_parts}
use Rattle.o32_model.specs.Names.{name_calls}
use Rattle.o32_model.specs.NodeCalls.{node_calls}
use Rattle.o32_model.specs.Opening.{opening_calls}
use Rattle.o32_model.specs.Small.{small_calls}
use Rattle.o32_model.specs.Status.{status_calls}
use Rattle.o32_model.specs.Step.{Guest, O32Row}
use Rattle.o32_model.specs.Table.{call_of, file_call_or, step_of, o32_call}
use Rattle.o32_model.specs.Terminal.{terminal_calls}
use Rattle.o32_model.specs.Transfers.{transfer_calls}

file_quiet : (number : ℕ) (otherwise : Option O32Row) → QuietIfAny otherwise → QuietIfAny (file_call_or otherwise number)
file_quiet number otherwise others =
    in_quiet opening_calls _ number opening_quiet
    (in_quiet status_calls _ number status_quiet
    (in_quiet entry_calls _ number entries_quiet
    (in_quiet name_calls _ number names_quiet
    (in_quiet node_calls otherwise number nodes_quiet others))))

call_quiet : (number : ℕ) → number ≢ mprotect_number → stores_in_parts number ≡ false → QuietIfAny (call_of number)
call_quiet number other whole =
    in_quiet transfer_calls _ number transfers_quiet
    (in_quiet descriptor_calls _ number descriptors_quiet
    (in_quiet terminal_calls _ number terminal_quiet
    (in_quiet small_calls _ number small_quiet
    (file_quiet number _ (waits_quiet number _ whole (signals_quiet number _ (mappings_quiet number other)))))))

step_quiet : (call : Option O32Row) → QuietIfAny call → (kernel : Kernel) (guest : Guest) (left : List ℕ) → Quiet guest left (step_of call kernel guest left)
step_quiet None quiet kernel guest left = gives_quiet guest (refused kernel ENOSYS) left
step_quiet (Some call) quiet kernel guest left = quiet.quiet kernel guest left

pub o32_call_quiet : (kernel : Kernel) (guest : Guest) (left : List ℕ) → guest.words.nr ≢ mprotect_number → stores_in_parts guest.words.nr ≡ false
    → Quiet guest left (o32_call kernel guest left)
o32_call_quiet kernel guest left other whole =
    step_quiet (call_of guest.words.nr) (call_quiet guest.words.nr other whole) kernel guest left
