-- A call by its number.
use Rattle.std.proofs.Common.{◌≡◌, ℕ, List, Result, subst, sym}
use Rattle.guest_space.specs.Memory.{Memory}
use Rattle.kernel_core.specs.declared.core_error.Stop.{Stop}
use Rattle.kernel_model.specs.State.{Kernel}
use Rattle.mips_exec.specs.Processor.{Processor}
use Rattle.o32_model.specs.Answered.{Answers}
use Rattle.o32_model.specs.Step.{Guest}
use Rattle.o32_model.specs.Table.{o32_call, step_of, call_of}
use Rattle.o32_model.specs.declared.outcome.Outcome.{Outcome}
use Rattle.outside.specs.Streams.{Contents}

pub by_number : (number : ℕ) (kernel : Kernel) (guest : Guest) (left : List ℕ) (result : Result Outcome Stop) (became : Kernel) (memory : Memory) (processor : Processor) (before after : Contents) → guest.words.nr ≡ number
    → Answers (step_of (call_of number) kernel guest left) result became memory processor before after → Answers (o32_call kernel guest left) result became memory processor before after
by_number number kernel guest left result became memory processor before after same answers =
    subst (λ (n : ℕ). Answers (step_of (call_of n) kernel guest left) result became memory processor before after) (sym same) answers
