-- The table of the calls by their numbers (Linux include/uapi/asm-generic/unistd.h). Any other number is ENOSYS (syscall(2), errno(3)).
use Rattle.std.specs.Prelude.{ℕ, List, Option, Some, None}
use Rattle.kernel_core.specs.declared.error.Errno.TheVariants.{ENOSYS}
use Rattle.kernel_model.specs.Came.{refused}
use Rattle.kernel_model.specs.State.{Kernel}
use Rattle.native_calls.specs.Clocks.{clock_calls}
use Rattle.native_calls.specs.Descriptors.{descriptor_calls}
use Rattle.native_calls.specs.Ids.{id_calls}
use Rattle.native_calls.specs.Names.{name_calls}
use Rattle.native_calls.specs.Nodes.{node_calls}
use Rattle.native_calls.specs.Polls.{poll_calls}
use Rattle.native_calls.specs.Signals.{signal_calls}
use Rattle.native_calls.specs.Status.{status_calls}
use Rattle.native_calls.specs.Step.{NativeStep, NativeCall, gives}
use Rattle.native_calls.specs.System.{system_calls}
use Rattle.native_calls.specs.Terminal.{terminal_calls}
use Rattle.native_calls.specs.Transfers.{transfer_calls}
use Rattle.number_tables.specs.Numbered.{numbered_or}

-- the call of a number among these, or else the other one
abbrev pub call_in : List NativeCall → Option NativeCall → ℕ → Option NativeCall
call_in calls otherwise number = numbered_or (λ (call : NativeCall). call.number) calls otherwise number

abbrev pub call_of : ℕ → Option NativeCall
call_of number =
    call_in descriptor_calls
    (call_in terminal_calls
    (call_in transfer_calls
    (call_in status_calls
    (call_in id_calls
    (call_in name_calls
    (call_in node_calls
    (call_in system_calls
    (call_in clock_calls
    (call_in signal_calls
    (call_in poll_calls None
    number) number) number) number) number) number) number) number) number) number) number

abbrev pub step_of : Option NativeCall → List ℕ → Kernel → List ℕ → List ℕ → NativeStep
step_of None args kernel memory left = gives memory (refused kernel ENOSYS) left
step_of (Some call) args kernel memory left = call.step args kernel memory left

-- What a call does, by its number and six arguments, the kernel, host memory, and what is left of the input
abbrev pub native_call : ℕ → List ℕ → Kernel → List ℕ → List ℕ → NativeStep
native_call number args kernel memory left = step_of (call_of number) args kernel memory left
