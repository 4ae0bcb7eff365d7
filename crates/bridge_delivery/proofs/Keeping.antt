-- What is kept over the parts of a delivery.
use Rattle.std.proofs.Common.{◌≡◌, ℕ, List, Option, Some, ap, subst, sym, ◌∙◌, Result, Ok, Err, OnOk}
use Rattle.bridge_ends.specs.Ends.{Keeps}
use Rattle.bridge_ends.proofs.Passed.{logged_none, logged_then}
use Rattle.bridge_ends.proofs.Passed.{effected_none, effected_then}
use Rattle.bridge_ends.specs.Passed.{Logged, reached}
use Rattle.bridge_ends.specs.Passed.{Unmoved}
use Rattle.bridge_ends.proofs.Passed.{moves_look}
use Rattle.bridge_ends.specs.Passed.{Acted, Moves}
use Rattle.guest_space.specs.Memory.{Pages}
use Rattle.kernel_core.specs.declared.core_error.Stop.{Stop}
use Rattle.kernel_core.specs.declared.log_entry.LogEntry.{LogEntry}
use Rattle.kernel_core.specs.declared.record.Effect.{Effect}
use Rattle.kernel_model.specs.Pipes.{Sent}
use Rattle.kernel_model.specs.State.{Kernel}
use Rattle.mips_exec.specs.Processor.{Processor}
use Rattle.native_calls.specs.History.{moment}
use Rattle.o32_model.specs.Effects.{Effected}
use Rattle.o32_model.specs.Logs.{Kept}
use Rattle.outside.specs.Streams.{Contents}

-- what is left of the input is told afterwards too
pub told_then : {before after : Contents} {left : List ℕ} → after ≡ before → before.left ≡ Some left → after.left ≡ Some left
told_then rest told = ap (λ (at : Contents). at.left) rest ∙ told

-- Nothing, a call that changes nothing, one that changes the kernel, a write of the program's memory, and several

pub keeps_none : (kernel : Kernel) (pages : Pages) (left : List ℕ) (kept : Kept) → Keeps kernel kernel pages pages left kept kept
keeps_none kernel pages left kept = record {
  native = λ sent. logged_none kept.native (moment kernel left sent);
  effects = λ processor sent. effected_none kept.effects (reached processor pages sent);
}

pub keeps_act : {kernel became : Kernel} {before after : Contents} {left : List ℕ} {old new : Kept} (pages : Pages)
    → Moves kernel became before after left old new → Keeps kernel became pages pages left old new
keeps_act {old = old} pages moves = record {
  native = moves.logged;
  effects = λ processor sent.
      subst (λ (e : Option (List Effect)). Effected old.effects e (reached processor pages sent) (reached processor pages sent)) (sym moves.effects)
      (effected_none old.effects (reached processor pages sent));
}

pub keeps_look : {kernel became : Kernel} {before after : Contents} {left : List ℕ} {old new : Kept} (pages : Pages)
    → Unmoved kernel became before after left old new → Keeps kernel became pages pages left old new
keeps_look pages unmoved = keeps_act pages (moves_look unmoved)

pub keeps_write : (kernel : Kernel) (before after : Pages) (left : List ℕ) (old new : Kept) → new.native ≡ old.native
    → ((processor : Processor) (sent : Sent) → Effected old.effects new.effects (reached processor before sent) (reached processor after sent))
    → Keeps kernel kernel before after left old new
keeps_write kernel before after left old new same effects = record {
  native = λ sent.
      subst (λ (n : Option (List LogEntry)). Logged old.native n (moment kernel left sent) (moment kernel left sent)) (sym same)
      (logged_none old.native (moment kernel left sent));
  effects = effects;
}

pub keeps_then : {kernel middle became : Kernel} {before between after : Pages} {left : List ℕ} {old kept new : Kept}
    → Keeps kernel middle before between left old kept → Keeps middle became between after left kept new → Keeps kernel became before after left old new
keeps_then first second = record {
  native = λ sent. logged_then (first.native sent) (second.native sent);
  effects = λ processor sent. effected_then (first.effects processor sent) (second.effects processor sent);
}

-- The last call of a part, which may have stopped early

pub kept_then : {A : Type 0} (result : Result A Stop) {kernel middle : Kernel} (became : Kernel) {before between : Pages} (after : Pages) {left : List ℕ} {old kept : Kept} (new : Kept)
    → Keeps kernel middle before between left old kept → OnOk result (Keeps middle became between after left kept new) → OnOk result (Keeps kernel became before after left old new)
kept_then (Ok found) became after new first second = keeps_then first second
kept_then (Err stop) became after new first second = tt

pub kept_act : {A : Type 0} (Does : A → Kernel → Type 0) (result : Result A Stop) (kernel became : Kernel) (before after : Contents) (pages : Pages) (left : List ℕ) (old new : Kept)
    → Acted Does result kernel became before after left old new → OnOk result (Keeps kernel became pages pages left old new)
kept_act Does (Ok found) kernel became before after pages left old new done = keeps_act pages done.1
kept_act Does (Err stop) kernel became before after pages left old new same = tt
