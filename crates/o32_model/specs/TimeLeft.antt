-- The time that a call with a time limit leaves: ppoll(2), select(2) and pselect(2) store what is left of it when they end, also with an
-- error, once the time was read and is one. Where it can't be stored, nothing is stored, and the answer stands. (That each of them does so
-- is this project's own.)
use Rattle.std.specs.Prelude.{ℕ, List, length, Option, Some, None, Ok, Err, if◌then◌else◌}
use Rattle.guest_space.specs.Bytes.{copied_out}
use Rattle.guest_space.specs.Memory.{Memory}
use Rattle.kernel_model.specs.Came.{Given}
use Rattle.kernel_model.specs.Clock.{left_of_wait}
use Rattle.kernel_model.specs.State.{Kernel}
use Rattle.o32_model.specs.GuestBytes.{is_storable}
use Rattle.o32_model.specs.Step.{O32Step}
use Rattle.o32_model.specs.declared.outcome.Outcome.{Outcome}
use Rattle.o32_model.specs.declared.outcome.Outcome.TheVariants as outcomes

-- where the time is stored, and its bytes
pub record LeftForm : Type 0 where
  pub address : ℕ
  pub bytes : ℕ → List ℕ

-- whether it can be stored is asked of memory as it was before the call
abbrev pub with_left_of : LeftForm → Memory → Option ℕ → Memory → Memory
with_left_of form before None memory = memory
with_left_of form before (Some left) memory =
    let bytes = form.bytes left in
    if is_storable before form.address (length bytes) then copied_out memory form.address bytes else memory

-- a call that waits has not ended
abbrev pub at_end : (Memory → Memory) → O32Step → Outcome → O32Step
at_end with_left step (outcomes.Value value) = record step { memory = with_left step.memory }
at_end with_left step (outcomes.Pair first second) = record step { memory = with_left step.memory }
at_end with_left step (outcomes.Error error) = record step { memory = with_left step.memory }
at_end with_left step (outcomes.Sleep wait) = step
at_end with_left step outcomes.Frame = step
at_end with_left step outcomes.BadFrame = step
at_end with_left step (outcomes.Exit status) = step

-- the time is none where its pointer is null, and an error where it can't be read or is no time
abbrev pub with_time_left : LeftForm → Kernel → Memory → Given (Option ℕ) → O32Step → O32Step
with_time_left form kernel before (Err error) step = step
with_time_left form kernel before (Ok length) step =
    at_end (with_left_of form before (left_of_wait kernel kernel.clock length)) step step.outcome
