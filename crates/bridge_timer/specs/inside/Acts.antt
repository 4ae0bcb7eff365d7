-- Native calls that change the kernel, and neither take nor send. (The form is this project's own.)
use Rattle.std.specs.Prelude.{◌≡◌, ℕ, List, Some, Result, Ok, Err}
use Rattle.kernel_core.specs.declared.core_error.Stop.{Stop}
use Rattle.kernel_core.specs.declared.reply.Reply.{Reply}
use Rattle.kernel_model.specs.Pipes.{Sent, nothing}
use Rattle.kernel_model.specs.State.{Kernel}
use Rattle.native_calls.specs.History.{moment}
use Rattle.native_calls.specs.Step.{NativeStep}
use Rattle.o32_model.specs.Logs.{Kept}
use Rattle.outside.specs.Streams.{Contents}
use Rattle.bridge_log.specs.Keeping.{Logged}

-- The call makes this kernel, and takes and sends nothing; it has this reply.
pub record IsAct (target : Kernel) (reply : Reply) (left : List ℕ) (step : NativeStep) : Type 0 where
  pub becomes : step.kernel ≡ target
  pub left_stays : step.left ≡ left
  pub sends : step.sent ≡ nothing
  pub replied : step.reply ≡ reply

-- Contents and effects are as they were, and the native calls that were kept lead from one kernel to the other.
pub record Moves (kernel became : Kernel) (before after : Contents) (left : List ℕ) (old new : Kept) : Type 0 where
  pub rest : after ≡ before
  pub logged : (sent : Sent) → Logged old.native new.native (moment kernel left sent) (moment became left sent)
  pub effects : new.effects ≡ old.effects

-- What was answered and the kernel are as they should be, and nothing else has changed; where it stopped early no content has.
abbrev pub Acted : {A : Type 0} → (A → Kernel → Type 0) → Result A Stop → Kernel → Kernel → Contents → Contents → List ℕ → Kept → Kept → Type 0
Acted Does (Ok found) kernel became before after left old new = Does found became × Moves kernel became before after left old new
Acted Does (Err stop) kernel became before after left old new = after ≡ before

-- where the input tells what is left of it
abbrev pub Acts : {A : Type 0} → (A → Kernel → Type 0) → Result A Stop → Kernel → Kernel → Contents → Contents → Kept → Kept → Type 0
Acts Does result kernel became before after old new =
    (left : List ℕ) → before.left ≡ Some left → Acted Does result kernel became before after left old new
