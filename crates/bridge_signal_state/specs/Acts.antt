-- Calls that change the kernel, and neither take input nor send anything, so that no content changes. (The form is this project's own.)
use Rattle.std.specs.Prelude.{◌≡◌, ℕ, List, Some, Result, Ok, Err}
use Rattle.kernel_core.specs.declared.core_error.Stop.{Stop}
use Rattle.kernel_model.specs.Pipes.{Sent}
use Rattle.kernel_model.specs.State.{Kernel}
use Rattle.native_calls.specs.History.{moment}
use Rattle.o32_model.specs.Logs.{Kept}
use Rattle.outside.specs.Streams.{Contents}
use Rattle.bridge_log.specs.Keeping.{Logged}

-- Contents and effects are as they were, and the native calls that were kept lead from the kernel before to the one after.
pub record Moves (kernel became : Kernel) (before after : Contents) (left : List ℕ) (old new : Kept) : Type 0 where
  pub rest : after ≡ before
  pub logged : (sent : Sent) → Logged old.native new.native (moment kernel left sent) (moment became left sent)
  pub effects : new.effects ≡ old.effects

-- What was found and the kernel after it are as is said; where it stopped early no content has changed.
abbrev pub Acted : {A : Type 0} → (A → Kernel → Type 0) → Result A Stop → Kernel → Kernel → Contents → Contents → List ℕ → Kept → Kept → Type 0
Acted Does (Ok found) kernel became before after left old new = Does found became × Moves kernel became before after left old new
Acted Does (Err stop) kernel became before after left old new = after ≡ before

-- where the input tells what is left of it
abbrev pub Acts : {A : Type 0} → (A → Kernel → Type 0) → Result A Stop → Kernel → Kernel → Contents → Contents → Kept → Kept → Type 0
Acts Does result kernel became before after old new =
    (left : List ℕ) → before.left ≡ Some left → Acted Does result kernel became before after left old new
