-- What an end of a wait comes to, and what is kept of it. (The forms are this project's own.)
use Rattle.std.specs.Prelude.{◌≡◌, ℕ, List, Option, Some, Result, IfOk, OnOk}
use Rattle.bridge_log.specs.Keeping.{Logged, reached}
use Rattle.guest_space.specs.Memory.{Memory, Pages}
use Rattle.kernel_core.specs.declared.core_error.Stop.{Stop}
use Rattle.kernel_model.specs.Pipes.{Sent}
use Rattle.kernel_model.specs.State.{Kernel}
use Rattle.mips_exec.specs.Processor.{Processor}
use Rattle.native_calls.specs.History.{moment}
use Rattle.o32_model.specs.Effects.{Effected}
use Rattle.o32_model.specs.Logs.{Kept}
use Rattle.o32_model.specs.WaitEnds.{WaitEnd, ends_with}
use Rattle.o32_model.specs.declared.wait.Close.{Close}
use Rattle.outside.specs.Streams.{Contents}

-- An end was found: where the input tells what is left of it, it comes to this and has left the kernel and memory so, unless it stopped early;
-- and input and outputs are as they were.
abbrev pub Closes : WaitEnd → Result Close Stop → Kernel → Memory → Contents → Contents → Type 0
Closes end result kernel memory before after =
    (left : List ℕ) → before.left ≡ Some left → (after ≡ before) × IfOk result (λ close. end ≡ ends_with close kernel memory)

-- The native calls that were kept lead from the kernel before to the one after, and the effects from the pages before to those after; an end
-- takes nothing of the input and sends nothing.
pub record Keeps (kernel became : Kernel) (before after : Pages) (left : List ℕ) (old new : Kept) : Type 0 where
  pub native : (sent : Sent) → Logged old.native new.native (moment kernel left sent) (moment became left sent)
  pub effects : (processor : Processor) (sent : Sent) → Effected old.effects new.effects (reached processor before sent) (reached processor after sent)

-- where the input tells what is left of it, `told`; of an end that stopped early nothing is said
abbrev pub KeepsEnd : {A : Type 0} → Result A Stop → Option (List ℕ) → Kernel → Kernel → Pages → Pages → Kept → Kept → Type 0
KeepsEnd result told kernel became before after old new =
    (left : List ℕ) → told ≡ Some left → OnOk result (Keeps kernel became before after left old new)
