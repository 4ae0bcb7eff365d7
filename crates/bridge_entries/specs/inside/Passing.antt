-- Native calls that take and send nothing, one and several of them. (The form is this project's own.)
use Rattle.std.specs.Prelude.{◌≡◌, List, ℕ, Some, Result, Ok, Err}
use Rattle.kernel_core.specs.declared.core_error.Stop.{Stop}
use Rattle.kernel_core.specs.declared.reply.Reply.{Reply}
use Rattle.kernel_model.specs.Pipes.{Sent, nothing}
use Rattle.kernel_model.specs.State.{Kernel}
use Rattle.native_calls.specs.History.{moment}
use Rattle.native_calls.specs.Step.{NativeStep}
use Rattle.o32_model.specs.Logs.{Kept}
use Rattle.outside.specs.Streams.{Contents}
use Rattle.bridge_log.specs.Keeping.{Logged}

-- The call leaves this kernel and host memory, and has this reply; it takes and sends nothing.
pub record IsQuiet (target : Kernel) (reply : Reply) (memory left : List ℕ) (step : NativeStep) : Type 0 where
  pub becomes : step.kernel ≡ target
  pub left_stays : step.left ≡ left
  pub sends : step.sent ≡ nothing
  pub replied : step.reply ≡ reply
  pub stored : step.memory ≡ memory

-- The kernel is the target, contents and effects are as they were, and the native calls that were kept lead there.
pub record Passed (kernel target became : Kernel) (before after : Contents) (left : List ℕ) (old new : Kept) : Type 0 where
  pub same : became ≡ target
  pub rest : after ≡ before
  pub logged : (sent : Sent) → Logged old.native new.native (moment kernel left sent) (moment target left sent)
  pub effects : new.effects ≡ old.effects

-- What was found is so, and the kernel is the target; where it stopped early no content has changed.
abbrev pub Went : {A : Type 0} → (A → Type 0) → Result A Stop → Kernel → Kernel → Kernel → Contents → Contents → List ℕ → Kept → Kept → Type 0
Went IsSo (Ok found) kernel target became before after left old new = IsSo found × Passed kernel target became before after left old new
Went IsSo (Err stop) kernel target became before after left old new = after ≡ before

-- where the input tells what is left of it
abbrev pub GoesTo : {A : Type 0} → (A → Type 0) → Result A Stop → Kernel → Kernel → Kernel → Contents → Contents → Kept → Kept → Type 0
GoesTo IsSo result kernel target became before after old new =
    (left : List ℕ) → before.left ≡ Some left → Went IsSo result kernel target became before after left old new

-- the reply and host memory
pub record Replied (reply : Reply) (memory room : List ℕ) (found : Reply) : Type 0 where
  pub answered : found ≡ reply
  pub stored : room ≡ memory
