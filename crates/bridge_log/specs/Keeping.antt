-- What a bridge call has kept: the native calls that it made, and its effects on pages and outputs. (The log and the journal are this
-- project's own.)
use Rattle.std.specs.Prelude.{◌≡◌, ℕ, List, [], ◌∷◌, Option, Some, Result, OnOk}
use Rattle.guest_space.specs.Memory.{Memory, Pages}
use Rattle.kernel_core.specs.declared.core_error.Stop.{Stop}
use Rattle.kernel_core.specs.declared.log_entry.LogEntry.{LogEntry}
use Rattle.kernel_core.specs.declared.log_entry.LogEntry.TheVariants.{Call}
use Rattle.kernel_core.specs.declared.reply.Reply.{Reply}
use Rattle.kernel_model.specs.Pipes.{Sent, nothing}
use Rattle.kernel_model.specs.State.{Kernel}
use Rattle.mips_exec.specs.Processor.{Processor}
use Rattle.native_calls.specs.History.{Moment, moment, opening, more_sent, Leads}
use Rattle.native_calls.specs.Step.{NativeStep}
use Rattle.o32_model.specs.Effects.{Target, Effected}
use Rattle.o32_model.specs.Logs.{Kept, with_more}
use Rattle.o32_model.specs.Step.{Guest, O32Step}
use Rattle.o32_model.specs.declared.outcome.Outcome.{Outcome}

-- What is kept of native calls has become more, and the entries that came lead from one moment to another. Where nothing is kept, there
-- are such entries all the same.
pub record Logged (old new : Option (List LogEntry)) (from to : Moment) : Type 0 where
  pub more : List LogEntry
  pub kept : new ≡ with_more old more
  pub leads : Leads from more to

-- what is kept of native calls, and one call more: its number, its arguments, host memory before and after it, and its reply
abbrev pub with_call : Option (List LogEntry) → ℕ → List ℕ → List ℕ → List ℕ → Reply → Option (List LogEntry)
with_call kept number args before after reply = with_more kept (Call number args before after reply ∷ [])

-- What is said of a native call that is kept where the input tells what is left of it, `told`: the entries lead over what the call does,
-- whatever was sent before it. Of one that stopped early nothing is said.
abbrev pub LogsCall : (List ℕ → NativeStep) → Result Reply Stop → Kernel → Option (List ℕ) → Option (List LogEntry) → Option (List LogEntry) → Type 0
LogsCall step result kernel told old new =
    (left : List ℕ) → told ≡ Some left → (sent : Sent)
    → OnOk result (Logged old new (moment kernel left sent) (moment (step left).kernel (step left).left (more_sent sent (step left).sent)))

-- pages and text that was sent, as effects act on them. A call sets no register by an effect, so the processor is always the same one.
abbrev pub reached : Processor → Pages → Sent → Target
reached processor pages sent = record { processor = processor; pages = pages; sent = sent }

-- What came to the effects leads from the pages before to those after, whatever the registers are and whatever was sent.
abbrev pub EffectsLead : Kept → Kept → Memory → Memory → Type 0
EffectsLead old new before after = (processor : Processor) (sent : Sent) → Effected old.effects new.effects (reached processor before.pages sent) (reached processor after.pages sent)

-- What a call kept that did this step: native calls that lead from the kernel before, with nothing sent, to the one after, with all that was
-- sent; and effects that lead so from the pages before to those after.
pub record Keeps (step : O32Step) (kernel : Kernel) (left : List ℕ) (guest : Guest) (old new : Kept) : Type 0 where
  pub native : Logged old.native new.native (opening kernel left) (moment step.kernel step.left step.sent)
  pub effects : Effected old.effects new.effects (reached guest.processor guest.memory.pages nothing) (reached guest.processor step.memory.pages step.sent)

-- What is said of that where the input tells what is left of it, `told`: of a call that stopped early, nothing.
abbrev pub KeepsCall : (List ℕ → O32Step) → Result Outcome Stop → Kernel → Guest → Option (List ℕ) → Kept → Kept → Type 0
KeepsCall step result kernel guest told old new =
    (left : List ℕ) → told ≡ Some left → OnOk result (Keeps (step left) kernel left guest old new)
