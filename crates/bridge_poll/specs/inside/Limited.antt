-- Calls on entries with a limit of time and a mask. (The form is this project's own.)
use Rattle.std.specs.Prelude.{ℕ, List, count_by, Option, Some, None, Result, Ok, Err}
use Rattle.guest_space.specs.Memory.{Memory}
use Rattle.kernel_core.specs.declared.error.Errno.{Errno}
use Rattle.kernel_model.specs.Came.{Did}
use Rattle.kernel_model.specs.Readiness.{is_any}
use Rattle.kernel_model.specs.Shared.{PollSet}
use Rattle.kernel_model.specs.State.{Kernel}
use Rattle.o32_model.specs.Masks.{with_own_mask}
use Rattle.o32_model.specs.Polling.{entry_pieces}
use Rattle.o32_model.specs.Results.{Piece, all_fit, stores_pieces, value_if, with_pieces}
use Rattle.o32_model.specs.Step.{Guest, O32Step, failure}
use Rattle.o32_model.specs.TimeLeft.{with_left_of, with_time_left}
use Rattle.o32_model.specs.declared.outcome.Outcome.{Outcome}
use Rattle.bridge_limits.specs.Limits.{given_mask, left_form}
use Rattle.bridge_limits.specs.declared.times.TimePlace.{TimePlace}
use Rattle.bridge_poll.specs.declared.entries.Entries.{Entries}
use Rattle.bridge_poll.specs.declared.limited.Limits.{Limits}
use Rattle.bridge_poll.specs.inside.Asking.{polling}

-- by what the kernel's row came to
abbrev pub told_step : Guest → Entries → Did Kernel (List PollSet) → List ℕ → O32Step
told_step guest entries did left =
    stores_pieces (entry_pieces guest.memory entries.address) (λ events. count_by is_any events) guest did left

-- a call that stores the time that is left, or none that does
abbrev pub timed : Option TimePlace → Kernel → Memory → Option ℕ → O32Step → O32Step
timed None kernel before wait step = step
timed (Some at) kernel before wait step = with_time_left (left_form at) kernel before (Ok wait) step

abbrev pub with_left_if : Option TimePlace → Memory → Option ℕ → Memory → Memory
with_left_if None before time memory = memory
with_left_if (Some at) before time memory = with_left_of (left_form at) before time memory

abbrev pub limited_by : Kernel → Guest → Entries → Limits → Did Kernel (List PollSet) → List ℕ → O32Step
limited_by kernel guest entries limits did left =
    timed limits.left kernel guest.memory limits.wait
    (with_own_mask kernel (given_mask limits.own) (told_step guest entries did left))

abbrev pub limited_row : Kernel → Guest → Entries → Limits → List ℕ → O32Step
limited_row kernel guest entries limits left =
    limited_by kernel guest entries limits (polling kernel guest.memory entries limits) left

-- what an end comes to, and memory with what is told
abbrev pub outcome_by : Result ℕ Errno → Memory → List Piece → Outcome
outcome_by (Ok number) memory pieces = value_if (all_fit memory pieces) number
outcome_by (Err error) memory pieces = failure error

abbrev pub told_memory : Result ℕ Errno → Memory → List Piece → Memory
told_memory (Ok number) memory pieces = with_pieces memory pieces
told_memory (Err error) memory pieces = memory
