-- Instructions one after the other, none of which makes a call or meets a fault, and one behind them.
use Rattle.std.specs.Prelude.{◌≡◌, ℕ, zero, suc, Result, Ok, Err}
use Rattle.guest_space.specs.Memory.{Memory}
use Rattle.kernel_core.specs.declared.core_error.NoMemory.{NoMemory}
use Rattle.mips_exec.specs.Processor.{Processor}
use Rattle.mips_exec.specs.Step.{step_of}
use Rattle.mips_exec.specs.declared.execution.Stepped.{Stepped}
use Rattle.mips_exec.specs.declared.execution.Stepped.TheVariants.{Next}

-- an instruction leads from one processor and memory to others, and came to this
abbrev pub Steps : Processor → Memory → Stepped → Processor → Memory → Type 0
Steps processor memory came next stored = step_of processor memory ≡ record { processor = next; memory = stored; came = came }

-- so do k instructions that make no call and meet no fault
unfoldable pub Goes : ℕ → Processor → Memory → Processor → Memory → Type 0
Goes zero processor memory next stored = (processor ≡ next) × (memory ≡ stored)
Goes (suc k) processor memory next stored = (middle : Processor) × (kept : Memory) × Goes k processor memory middle kept × Steps middle kept Next next stored

-- and one more behind them, which came to this, or lacked memory and changed nothing
abbrev pub GoesThen : ℕ → Processor → Memory → Result Stepped NoMemory → Processor → Memory → Type 0
GoesThen k processor memory (Ok came) next stored = (middle : Processor) × (kept : Memory) × Goes k processor memory middle kept × Steps middle kept came next stored
GoesThen k processor memory (Err error) next stored = Goes k processor memory next stored
