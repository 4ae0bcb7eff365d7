-- The state in which a program starts.
-- Source: MIPS RISC Processor Supplement, 3rd edition, "Process Stack and Registers": the stack pointer in register 29, and the first instruction at the entry. That all other registers are 0 is this project's own.
use Rattle.std.specs.Prelude.{ℕ, List}
use Rattle.elf_image.specs.declared.load_plan.Plan.{Plan}
use Rattle.guest_space.specs.Memory.{Memory}
use Rattle.mips_exec.specs.Processor.{Processor, fresh, with_register}
use Rattle.start_stack.specs.FirstMemory.{first_memory}
use Rattle.start_stack.specs.Stack.{stack_pointer, stack_bytes}

-- the memory of a program that starts with these arguments, environment and random bytes
abbrev pub start_memory : Plan → List (List ℕ) → List (List ℕ) → List ℕ → Memory
start_memory plan args env random =
    first_memory plan.segments (stack_pointer args env) (stack_bytes plan args env random)

-- its processor
abbrev pub start_processor : Plan → List (List ℕ) → List (List ℕ) → Processor
start_processor plan args env = with_register (fresh plan.entry) 29 (stack_pointer args env)
