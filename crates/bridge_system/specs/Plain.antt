-- The small calls that ask the kernel for nothing. (The form is this project's own.)
use Rattle.std.specs.Prelude.{◌≡◌, ℕ, List}
use Rattle.guest_space.specs.Memory.{Memory}
use Rattle.kernel_model.specs.Pipes.{nothing}
use Rattle.kernel_model.specs.State.{Kernel}
use Rattle.mips_exec.specs.Processor.{Processor}
use Rattle.o32_model.specs.Step.{O32Step}
use Rattle.o32_model.specs.declared.outcome.Outcome.{Outcome}

-- a call that leaves the kernel and the input and sends nothing: what it came to, and memory and the processor then
abbrev pub leaves : Kernel → List ℕ → Outcome → Memory → Processor → O32Step
leaves kernel left outcome memory processor = record {
  kernel = kernel;
  left = left;
  memory = memory;
  processor = processor;
  sent = nothing;
  outcome = outcome;
}

-- what is said of such a row, whatever the kernel and the input
abbrev pub IsPlain : (Kernel → List ℕ → O32Step) → Outcome → Memory → Processor → Type 0
IsPlain row outcome memory processor = (kernel : Kernel) (left : List ℕ) → row kernel left ≡ leaves kernel left outcome memory processor
