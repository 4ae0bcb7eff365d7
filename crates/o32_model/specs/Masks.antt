-- Sets of signals in the program's memory, and calls that wait with a mask of their own (sigsetops(3), ppoll(2), pselect(2), sigsuspend(2)).
-- A set has a bit for each signal, in four words of 32 bits whose first holds the first 32.
use Rattle.std.specs.Prelude.{ℕ, ◌*◌, true, List, drop, Option, Some, None, Ok, Err}
use Rattle.std.specs.List.{flat_map}
use Rattle.guest_space.specs.Memory.{Memory}
use Rattle.kernel_model.specs.Came.{Given}
use Rattle.kernel_model.specs.SignalRows.{set_size, with_mask}
use Rattle.kernel_model.specs.SignalSets.{SignalSet, words}
use Rattle.kernel_model.specs.State.{Kernel}
use Rattle.layouts.specs.Number.{unsigned, bytes_of}
use Rattle.o32_model.specs.GuestBytes.{structure, read_as}
use Rattle.o32_model.specs.Step.{O32Step}
use Rattle.o32_model.specs.declared.outcome.Outcome.{Outcome}
use Rattle.o32_model.specs.declared.outcome.Outcome.TheVariants as outcomes
use Rattle.o32_model.specs.declared.wait.Wait.{Wait}

abbrev pub set_in : List ℕ → SignalSet
set_in bytes = words (λ k. unsigned true 4 (drop (4 * k) bytes))

abbrev pub set_bytes : SignalSet → List ℕ
set_bytes set = flat_map (bytes_of true 4) set

abbrev pub set_at : Memory → ℕ → Given SignalSet
set_at memory address = read_as set_in (structure memory address set_size)

-- The mask stands while the call waits, and the one before it is kept with the wait. A call that does not wait leaves the mask as it is.

-- the mask is none where its pointer is null; where it can't be read, the call has failed
abbrev pub waiting_with : Kernel → O32Step → Wait → Option (Given SignalSet) → O32Step
waiting_with before step wait None = step
waiting_with before step wait (Some (Err error)) = step
waiting_with before step wait (Some (Ok mask)) = record step {
  kernel = with_mask step.kernel mask;
  outcome = outcomes.Sleep (record wait { mask = Some before.signals.mask });
}

abbrev pub masked : Kernel → Option (Given SignalSet) → O32Step → Outcome → O32Step
masked before mask step (outcomes.Value value) = step
masked before mask step (outcomes.Pair first second) = step
masked before mask step (outcomes.Error error) = step
masked before mask step (outcomes.Sleep wait) = waiting_with before step wait mask
masked before mask step outcomes.Frame = step
masked before mask step outcomes.BadFrame = step
masked before mask step (outcomes.Exit status) = step

abbrev pub with_own_mask : Kernel → Option (Given SignalSet) → O32Step → O32Step
with_own_mask before mask step = masked before mask step step.outcome
