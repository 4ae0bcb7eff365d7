-- A call by its number.
use Rattle.std.proofs.Common.{◌≡◌, ℕ, List, Result, subst, sym}
use Rattle.guest_space.specs.Memory.{Memory}
use Rattle.kernel_core.specs.declared.core_error.Stop.{Stop}
use Rattle.kernel_model.specs.State.{Kernel}
use Rattle.mips_exec.specs.Processor.{Processor}
use Rattle.o32_model.specs.Answered.{Answers}
use Rattle.o32_model.specs.Step.{Guest, O32Step}
use Rattle.o32_model.specs.Table.{call_of, machine_call, seeing_call_of, seeing_step_of}
use Rattle.o32_model.specs.declared.outcome.Outcome.{Outcome}
use Rattle.o32_model.specs.declared.wait.Seen.{Seen}
use Rattle.outside.specs.Streams.{Contents}

-- what a machine's call of a number does
abbrev pub call_at : ℕ → Seen → Kernel → Guest → List ℕ → O32Step
call_at number seen kernel guest left = seeing_step_of (call_of number) (seeing_call_of number) seen kernel guest left

pub by_number : (number : ℕ) (seen : Seen) (kernel : Kernel) (guest : Guest) (left : List ℕ) (result : Result Outcome Stop) (became : Kernel) (memory : Memory) (processor : Processor) (before after : Contents) → guest.words.nr ≡ number
    → Answers (call_at number seen kernel guest left) result became memory processor before after → Answers (machine_call seen kernel guest left) result became memory processor before after
by_number number seen kernel guest left result became memory processor before after same answers =
    subst (λ (n : ℕ). Answers (call_at n seen kernel guest left) result became memory processor before after) (sym same) answers
