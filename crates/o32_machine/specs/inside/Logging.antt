-- What the steps of a turn keep in the native log. (The form is this project's own.)
use Rattle.std.specs.Prelude.{◌≡◌, ℕ, List, Option, Some, Result, OnOk}
use Rattle.bridge_log.specs.Keeping.{Logged}
use Rattle.kernel_core.specs.declared.core_error.Stop.{Stop}
use Rattle.kernel_core.specs.declared.log_entry.LogEntry.{LogEntry}
use Rattle.kernel_model.specs.Pipes.{Sent, nothing}
use Rattle.kernel_model.specs.State.{Kernel}
use Rattle.native_calls.specs.History.{moment}
use Rattle.native_log.specs.NativeLog.{IsReady, NativeLog, as_told}
use Rattle.o32_turns.specs.Machine.{Turn}
use Rattle.outside.specs.Streams.{Contents}

-- Entries lead from one kernel to another, whatever is left of the input and was sent; nothing is taken and nothing is sent.
abbrev pub PostsLogged : Kernel → Kernel → NativeLog → NativeLog → Type 0
PostsLogged kernel became old new =
    (left : List ℕ) (sent : Sent) → Logged old.entries new.entries (as_told old kernel left sent) (as_told new became left sent)

-- A part of a turn takes nothing of the input and sends nothing: the native calls that it kept lead from the kernel before it to the one after it.
-- It is said where the input tells what is left of it, `told`, and of a part that stopped early nothing is said.
abbrev pub KeepsNative : {A : Type 0} → Result A Stop → Option (List ℕ) → Kernel → Kernel → Option (List LogEntry) → Option (List LogEntry) → Type 0
KeepsNative result told kernel became old new =
    (left : List ℕ) → told ≡ Some left → OnOk result ((sent : Sent) → Logged old new (moment kernel left sent) (moment became left sent))

-- what leads so from the time that was told last is said of the first four steps, behind which the time can be told before a call
pub record SettledLogged (clock : ℕ) (kernel became : Kernel) (left : List ℕ) (old new : NativeLog) : Type 0 where
  pub leads : (sent : Sent) → Logged old.entries new.entries (as_told old kernel left sent) (as_told new became left sent)
  pub ready : IsReady clock new became

-- where the input tells what is left of it
abbrev pub LogsSettled : {A : Type 0} → ℕ → Result A Stop → Option (List ℕ) → Kernel → Kernel → NativeLog → NativeLog → Type 0
LogsSettled clock result told kernel became old new = (left : List ℕ) → told ≡ Some left → OnOk result (SettledLogged clock kernel became left old new)

-- Entries lead on over what a turn that is defined so takes of the input and sends.
abbrev pub LastLogged : Kernel → Kernel → List ℕ → Turn → NativeLog → NativeLog → Type 0
LastLogged kernel became left defined old new =
    Logged old.entries new.entries (as_told old kernel left nothing) (as_told new became defined.left defined.sent)

-- so the last steps, where the time can be told before a call
abbrev pub LogsLast : {A : Type 0} → (List ℕ → Turn) → ℕ → Result A Stop → Kernel → Kernel → NativeLog → NativeLog → Contents → Type 0
LogsLast defined clock result kernel became old new before =
    (left : List ℕ) → before.left ≡ Some left → IsReady clock old kernel → OnOk result (LastLogged kernel became left (defined left) old new)
