-- The small calls by their numbers.
use Rattle.std.specs.Prelude.{ℕ, List, None}
use Rattle.kernel_model.specs.State.{Kernel}
use Rattle.o32_model.specs.Small.{small_calls}
use Rattle.o32_model.specs.Step.{Guest, O32Step}
use Rattle.o32_model.specs.Table.{call_in, step_of}

-- the row of its number; any other number is ENOSYS (syscalls(2))
abbrev pub small_call : Guest → Kernel → List ℕ → O32Step
small_call guest kernel left = step_of (call_in small_calls None guest.words.nr) kernel guest left
