-- Native calls that change nothing, by which a call finds out about the kernel. (The form is this project's own.)
use Rattle.std.specs.Prelude.{◌≡◌, ℕ, List, Some, Result, Ok, Err}
use Rattle.kernel_core.specs.declared.core_error.Stop.{Stop}
use Rattle.kernel_core.specs.declared.reply.Reply.{Reply}
use Rattle.kernel_model.specs.Pipes.{Sent, nothing}
use Rattle.kernel_model.specs.State.{Kernel}
use Rattle.native_calls.specs.History.{moment}
use Rattle.native_calls.specs.Step.{NativeStep}
use Rattle.o32_model.specs.Logs.{Kept}
use Rattle.outside.specs.Streams.{Contents}
use Rattle.bridge_log.specs.Keeping.{Logged}

-- The call leaves the kernel and takes and sends nothing; it has this reply, and leaves this host memory.
pub record IsLook (kernel : Kernel) (reply : Reply) (memory left : List ℕ) (step : NativeStep) : Type 0 where
  pub kernel_stays : step.kernel ≡ kernel
  pub left_stays : step.left ≡ left
  pub sends : step.sent ≡ nothing
  pub replied : step.reply ≡ reply
  pub stored : step.memory ≡ memory

-- Kernel, contents and effects are as they were, and the native calls that were kept lead from the kernel to itself.
pub record Unmoved (kernel became : Kernel) (before after : Contents) (left : List ℕ) (old new : Kept) : Type 0 where
  pub same : became ≡ kernel
  pub rest : after ≡ before
  pub logged : (sent : Sent) → Logged old.native new.native (moment kernel left sent) (moment kernel left sent)
  pub effects : new.effects ≡ old.effects

-- What was found is what there is to find, and nothing has changed; where it stopped early no content has.
abbrev pub Looked : {A : Type 0} → (A → Type 0) → Result A Stop → Kernel → Kernel → Contents → Contents → List ℕ → Kept → Kept → Type 0
Looked IsThere (Ok found) kernel became before after left old new = IsThere found × Unmoved kernel became before after left old new
Looked IsThere (Err stop) kernel became before after left old new = after ≡ before

-- where the input tells what is left of it
abbrev pub LooksFor : {A : Type 0} → (A → Type 0) → Result A Stop → Kernel → Kernel → Contents → Contents → Kept → Kept → Type 0
LooksFor IsThere result kernel became before after old new =
    (left : List ℕ) → before.left ≡ Some left → Looked IsThere result kernel became before after left old new

-- the reply and host memory
pub record Replied (reply : Reply) (memory room : List ℕ) (found : Reply) : Type 0 where
  pub answered : found ≡ reply
  pub stored : room ≡ memory
