-- What a call that is made answers and leaves, by what the table says of it. (That a call may stop early, and what holds then, is this
-- project's own.)
use Rattle.std.specs.Prelude.{◌≡◌, ℕ, ◌⊎◌, List, [], Some, Result, Ok, Err}
use Rattle.guest_space.specs.Memory.{Memory}
use Rattle.kernel_core.specs.declared.core_error.Stop.{Stop}
use Rattle.kernel_model.specs.State.{Kernel}
use Rattle.mips_exec.specs.Processor.{Processor}
use Rattle.o32_model.specs.Step.{O32Step}
use Rattle.o32_model.specs.declared.outcome.Outcome.{Outcome}
use Rattle.outside.specs.Output.{GainsText, GainsBetween}
use Rattle.outside.specs.Streams.{Contents}

-- The call was carried out.
pub record Called (step : O32Step) (outcome : Outcome) (kernel : Kernel) (memory : Memory) (processor : Processor) (before after : Contents) : Type 0 where
  pub came : outcome ≡ step.outcome
  pub became : kernel ≡ step.kernel
  pub stored : memory ≡ step.memory
  pub set : processor ≡ step.processor
  pub rest : after.left ≡ Some step.left
  pub to_out : GainsText before.out after.out step.sent.out
  pub to_err : GainsText before.err after.err step.sent.err

-- The call stopped early, for want of memory or by a device. What it would have taken of the input is taken or not, and of what it would
-- have sent a first part is sent. Nothing is said of the kernel, of memory and of the processor, which are not used again.
pub record Stopped (step : O32Step) (before after : Contents) : Type 0 where
  pub rest : (after.left ≡ before.left) ⊎ (after.left ≡ Some step.left)
  pub to_out : GainsBetween before.out after.out [] step.sent.out
  pub to_err : GainsBetween before.err after.err [] step.sent.err

abbrev pub Answers : O32Step → Result Outcome Stop → Kernel → Memory → Processor → Contents → Contents → Type 0
Answers step (Ok outcome) kernel memory processor before after = Called step outcome kernel memory processor before after
Answers step (Err stop) kernel memory processor before after = Stopped step before after

-- What is said of a call, where the input tells what is left of it: `step` is what the call does then. When a device may stop it is
-- `StopsOnlyIfRose` of `kernel_model`.
abbrev pub IsCall : (List ℕ → O32Step) → Result Outcome Stop → Kernel → Memory → Processor → Contents → Contents → Type 0
IsCall step result kernel memory processor before after =
    (left : List ℕ) → before.left ≡ Some left → Answers (step left) result kernel memory processor before after
