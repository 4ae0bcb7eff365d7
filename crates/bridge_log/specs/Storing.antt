-- What a call stores in the program's memory, and what it comes to by that. (The forms are this project's own.)
use Rattle.std.specs.Prelude.{ℕ, ◌==◌, List, length, if◌then◌else◌}
use Rattle.guest_space.specs.Memory.{Memory}
use Rattle.kernel_model.specs.Pipes.{nothing}
use Rattle.kernel_model.specs.Shared.{Errno}
use Rattle.kernel_model.specs.State.{Kernel}
use Rattle.mips_exec.specs.Processor.{Processor}
use Rattle.o32_model.specs.GuestBytes.{is_storable, with_stored}
use Rattle.o32_model.specs.Results.{value_if}
use Rattle.o32_model.specs.Step.{O32Step, failure, value}
use Rattle.o32_model.specs.declared.outcome.Outcome.{Outcome}

-- what it comes to, and the program's memory behind it
pub record Ending : Type 0 where
  pub outcome : Outcome
  pub memory : Memory

abbrev pub ending : Outcome → Memory → Ending
ending outcome memory = record { outcome = outcome; memory = memory }

-- the step of a call that ends so, with this kernel and processor
abbrev pub ended : Kernel → Processor → List ℕ → Ending → O32Step
ended kernel processor left ending = record {
  kernel = kernel;
  left = left;
  memory = ending.memory;
  processor = processor;
  sent = nothing;
  outcome = ending.outcome;
}

abbrev pub fails : Memory → Errno → Ending
fails memory error = ending (failure error) memory

-- bytes are stored whole, and give a number; where they can't all be stored, none is, and that is EFAULT
abbrev pub stores : Memory → ℕ → List ℕ → ℕ → Ending
stores memory address bytes number =
    ending (value_if (is_storable memory address (length bytes)) number) (with_stored memory address bytes)

-- a pointer that is null stores nothing
abbrev pub stores_unless_null : Memory → ℕ → List ℕ → ℕ → Ending
stores_unless_null memory address bytes number =
    if address == 0 then ending (value number) memory else stores memory address bytes number
