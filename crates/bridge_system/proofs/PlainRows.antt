-- A small call that asks the kernel for nothing, by its number.
use Rattle.std.proofs.Common.{◌≡◌, ℕ, List, None, sym, subst}
use Rattle.bridge_system.specs.Found.{found}
use Rattle.bridge_system.specs.System.{small_call}
use Rattle.bridge_system.specs.Plain.{leaves}
use Rattle.guest_space.specs.Memory.{Memory}
use Rattle.kernel_model.specs.State.{Kernel}
use Rattle.mips_exec.specs.Processor.{Processor}
use Rattle.o32_model.specs.Small.{small_calls}
use Rattle.o32_model.specs.Table.{call_in, step_of}
use Rattle.o32_model.specs.declared.call_words.CallWords.{CallWords}
use Rattle.o32_model.specs.declared.outcome.Outcome.{Outcome}

pub row_of : (number : ℕ) (words : CallWords) (processor after : Processor) (outcome : Outcome) (memory : Memory) (kernel : Kernel) (left : List ℕ) → words.nr ≡ number
    → step_of (call_in small_calls None number) kernel (found words processor memory) left ≡ leaves kernel left outcome memory after
    → small_call (found words processor memory) kernel left ≡ leaves kernel left outcome memory after
row_of number words processor after outcome memory kernel left same row =
    subst (λ (n : ℕ). step_of (call_in small_calls None n) kernel (found words processor memory) left ≡ leaves kernel left outcome memory after) (sym same) row
