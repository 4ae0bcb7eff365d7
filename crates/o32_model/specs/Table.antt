-- The table of the calls by their numbers (Linux arch/mips/include/uapi/asm/unistd.h, the o32 table). Any other number is ENOSYS
-- (syscalls(2)).
use Rattle.std.specs.Prelude.{ℕ, Bool, List, Option, Some, None, is_some}
use Rattle.kernel_core.specs.declared.error.Errno.TheVariants.{ENOSYS}
use Rattle.kernel_model.specs.Came.{refused}
use Rattle.kernel_model.specs.State.{Kernel}
use Rattle.number_tables.specs.Numbered.{numbered_or}
use Rattle.o32_model.specs.Actions.{action_calls}
use Rattle.o32_model.specs.Clocks.{clock_calls}
use Rattle.o32_model.specs.Descriptors.{descriptor_calls}
use Rattle.o32_model.specs.Entries.{entry_calls}
use Rattle.o32_model.specs.Mappings.{map_calls}
use Rattle.o32_model.specs.Names.{name_calls}
use Rattle.o32_model.specs.NodeCalls.{node_calls}
use Rattle.o32_model.specs.Opening.{opening_calls}
use Rattle.o32_model.specs.Polling.{poll_calls}
use Rattle.o32_model.specs.Returns.{return_calls}
use Rattle.o32_model.specs.Seeing.{SeeingRow, seeing_clock_calls, seeing_signal_calls}
use Rattle.o32_model.specs.Selecting.{select_calls}
use Rattle.o32_model.specs.Sending.{sending_calls}
use Rattle.o32_model.specs.Sleeps.{sleep_calls}
use Rattle.o32_model.specs.Small.{small_calls}
use Rattle.o32_model.specs.Status.{status_calls}
use Rattle.o32_model.specs.Step.{Guest, O32Step, O32Row, gives}
use Rattle.o32_model.specs.Suspending.{suspending_calls}
use Rattle.o32_model.specs.Terminal.{terminal_calls}
use Rattle.o32_model.specs.Transfers.{transfer_calls}
use Rattle.o32_model.specs.declared.wait.Seen.{Seen}

-- the call of a number among these, or else the other one
abbrev pub call_in : List O32Row → Option O32Row → ℕ → Option O32Row
call_in calls otherwise number = numbered_or (λ (call : O32Row). call.number) calls otherwise number

-- the calls on descriptors and what they have open; the calls on files by their names, on status, places and entries; the calls on time and
-- readiness; the calls on signals; and all calls

abbrev pub io_call_or : Option O32Row → ℕ → Option O32Row
io_call_or otherwise number =
    call_in transfer_calls
    (call_in descriptor_calls
    (call_in terminal_calls otherwise
    number) number) number

abbrev pub file_call_or : Option O32Row → ℕ → Option O32Row
file_call_or otherwise number =
    call_in opening_calls
    (call_in status_calls
    (call_in entry_calls
    (call_in name_calls
    (call_in node_calls otherwise
    number) number) number) number) number

abbrev pub wait_call_or : Option O32Row → ℕ → Option O32Row
wait_call_or otherwise number =
    call_in clock_calls
    (call_in sleep_calls
    (call_in poll_calls
    (call_in select_calls otherwise
    number) number) number) number

abbrev pub signal_call_or : Option O32Row → ℕ → Option O32Row
signal_call_or otherwise number =
    call_in sending_calls
    (call_in action_calls
    (call_in suspending_calls
    (call_in return_calls otherwise
    number) number) number) number

abbrev pub call_of : ℕ → Option O32Row
call_of number = io_call_or (call_in small_calls (file_call_or (wait_call_or (signal_call_or (call_in map_calls None number) number) number) number) number) number

-- the calls that see more of the machine, on clocks and on signals, and all of them

abbrev pub seeing_call_in : List SeeingRow → Option SeeingRow → ℕ → Option SeeingRow
seeing_call_in calls otherwise number = numbered_or (λ (call : SeeingRow). call.number) calls otherwise number

abbrev pub seeing_call_of : ℕ → Option SeeingRow
seeing_call_of number = seeing_call_in seeing_clock_calls (seeing_call_in seeing_signal_calls None number) number

-- whether a number is that of a call on mappings
abbrev pub is_map_call : ℕ → Bool
is_map_call number = is_some (call_in map_calls None number)

abbrev pub step_of : Option O32Row → Kernel → Guest → List ℕ → O32Step
step_of None kernel guest left = gives guest (refused kernel ENOSYS) left
step_of (Some call) kernel guest left = call.step kernel guest left

-- What a call does, by the kernel, what it finds of the program, and what is left of the input
abbrev pub o32_call : Kernel → Guest → List ℕ → O32Step
o32_call kernel guest left = step_of (call_of guest.words.nr) kernel guest left

-- What a call of a machine does, which sees more than that

abbrev pub seeing_step_of : Option O32Row → Option SeeingRow → Seen → Kernel → Guest → List ℕ → O32Step
seeing_step_of (Some call) other seen kernel guest left = call.step kernel guest left
seeing_step_of None None seen kernel guest left = gives guest (refused kernel ENOSYS) left
seeing_step_of None (Some call) seen kernel guest left = call.step seen kernel guest left

abbrev pub machine_call : Seen → Kernel → Guest → List ℕ → O32Step
machine_call seen kernel guest left = seeing_step_of (call_of guest.words.nr) (seeing_call_of guest.words.nr) seen kernel guest left
