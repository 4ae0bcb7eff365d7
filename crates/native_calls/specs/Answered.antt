-- What a call that is made answers and leaves, by what the table says of it. (That a call may stop early, and what holds then, is this
-- project's own.)
use Rattle.std.specs.Prelude.{◌≡◌, ℕ, ◌⊎◌, List, [], Some, Result, Ok, Err}
use Rattle.kernel_core.specs.declared.core_error.Stop.{Stop}
use Rattle.kernel_core.specs.declared.reply.Reply.{Reply}
use Rattle.kernel_model.specs.State.{Kernel}
use Rattle.native_calls.specs.Step.{NativeStep}
use Rattle.outside.specs.Output.{GainsText, GainsBetween}
use Rattle.outside.specs.Streams.{Contents}

-- The call was carried out.
pub record Called (step : NativeStep) (reply : Reply) (kernel : Kernel) (memory : List ℕ) (before after : Contents) : Type 0 where
  pub answered : reply ≡ step.reply
  pub became : kernel ≡ step.kernel
  pub stored : memory ≡ step.memory
  pub rest : after.left ≡ Some step.left
  pub to_out : GainsText before.out after.out step.sent.out
  pub to_err : GainsText before.err after.err step.sent.err

-- The call stopped early, for want of memory or by a device. What it would have taken of the input is taken or not, and of what it would
-- have sent a first part is sent. Nothing is said of the kernel and of memory, which are not used again.
pub record Stopped (step : NativeStep) (before after : Contents) : Type 0 where
  pub rest : (after.left ≡ before.left) ⊎ (after.left ≡ Some step.left)
  pub to_out : GainsBetween before.out after.out [] step.sent.out
  pub to_err : GainsBetween before.err after.err [] step.sent.err

abbrev pub Answers : NativeStep → Result Reply Stop → Kernel → List ℕ → Contents → Contents → Type 0
Answers step (Ok reply) kernel memory before after = Called step reply kernel memory before after
Answers step (Err stop) kernel memory before after = Stopped step before after

-- What is said of a call, where the input tells what is left of it: `step` is what the call does then.
abbrev pub IsCall : (List ℕ → NativeStep) → Result Reply Stop → Kernel → List ℕ → Contents → Contents → Type 0
IsCall step result kernel memory before after =
    (left : List ℕ) → before.left ≡ Some left → Answers (step left) result kernel memory before after
