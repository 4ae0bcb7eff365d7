-- A call of a program that has acted by native calls, and ends: what it answers and what it keeps.
use Rattle.std.proofs.Common.{◌≡◌, ℕ, List, Option, Some, Result, Ok, Err, OnOk, refl, sym, subst}
use Rattle.guest_space.specs.Memory.{Memory}
use Rattle.kernel_core.specs.declared.core_error.Stop.{Stop}
use Rattle.kernel_core.specs.declared.log_entry.LogEntry.{LogEntry}
use Rattle.kernel_core.specs.declared.record.Effect.{Effect}
use Rattle.kernel_model.specs.Pipes.{Sent, nothing}
use Rattle.kernel_model.specs.State.{Kernel}
use Rattle.mips_exec.specs.Processor.{Processor}
use Rattle.native_calls.specs.History.{moment, opening}
use Rattle.o32_model.specs.Answered as o32
use Rattle.o32_model.specs.Effects.{Effected}
use Rattle.o32_model.specs.Logs.{Kept}
use Rattle.o32_model.specs.Step.{Guest, O32Step}
use Rattle.o32_model.specs.declared.outcome.Outcome.{Outcome}
use Rattle.outside.proofs.OutputLemmas.{GainsText-nothing}
use Rattle.outside.specs.Streams.{Contents}
use Rattle.bridge_signal_state.proofs.Passed.{stopped_before}
use Rattle.bridge_signal_state.proofs.Passed.{effected_none}
use Rattle.bridge_signal_state.specs.Passed.{Keeps, Logged, reached}
use Rattle.bridge_signal_state.specs.Acts.{Acted, Moves}
use Rattle.bridge_limits.proofs.LimitedRows.{step_of}

pub ends_called : {kernel became : Kernel} {before after : Contents} {left : List ℕ} {old kept : Kept} (guest : Guest) (outcome : Outcome) (memory : Memory) (step : O32Step)
    → Moves kernel became before after left old kept → before.left ≡ Some left → step ≡ step_of became guest left memory outcome
    → o32.Called step outcome became memory guest.processor before after
ends_called {kernel} {became} {before} {after} {left} guest outcome memory step m told row =
    subst (λ (s : O32Step). o32.Called s outcome became memory guest.processor before after) (sym row)
    (subst (λ (at : Contents). o32.Called (step_of became guest left memory outcome) outcome became memory guest.processor before at) (sym m.rest)
    (record {
      came = refl;
      became = refl;
      stored = refl;
      set = refl;
      rest = told;
      to_out = GainsText-nothing before.out;
      to_err = GainsText-nothing before.err;
    }))

-- what it stored is kept as effects
pub ends_keeps : {kernel became : Kernel} {before after : Contents} {left : List ℕ} {old kept : Kept} (guest : Guest) (outcome : Outcome) (memory : Memory) (step : O32Step) (new : Kept)
    → Moves kernel became before after left old kept → step ≡ step_of became guest left memory outcome
    → new.native ≡ kept.native → ((processor : Processor) (sent : Sent) → Effected kept.effects new.effects (reached processor guest.memory.pages sent) (reached processor memory.pages sent))
    → Keeps step kernel left guest old new
ends_keeps {kernel} {became} {left = left} {old = old} {kept = kept} guest outcome memory step new m row native effects =
    subst (λ (s : O32Step). Keeps s kernel left guest old new) (sym row)
    (record {
      native = subst (λ (n : Option (List LogEntry)). Logged old.native n (opening kernel left) (moment became left nothing)) (sym native) (m.logged nothing);
      effects =
          subst (λ (e : Option (List Effect)). Effected e new.effects (reached guest.processor guest.memory.pages nothing) (reached guest.processor memory.pages nothing)) m.effects (effects guest.processor nothing);
    })

-- where it stored nothing
pub ends_quietly : {kernel became : Kernel} {before after : Contents} {left : List ℕ} {old new : Kept} (guest : Guest) (outcome : Outcome) (step : O32Step)
    → Moves kernel became before after left old new → step ≡ step_of became guest left guest.memory outcome → Keeps step kernel left guest old new
ends_quietly {new = new} guest outcome step m row =
    ends_keeps guest outcome guest.memory step new m row refl (λ processor sent. effected_none new.effects (reached processor guest.memory.pages sent))

-- A call that has acted, or stopped early, and stored nothing

pub acts_row : (Does : Outcome → Kernel → Type 0) (guest : Guest) (step : O32Step) (result : Result Outcome Stop) (kernel became : Kernel) (before after : Contents) (left : List ℕ) (old new : Kept)
    → before.left ≡ Some left → ((outcome : Outcome) → Does outcome became → step ≡ step_of became guest left guest.memory outcome)
    → Acted Does result kernel became before after left old new → o32.Answers step result became guest.memory guest.processor before after
acts_row Does guest step (Ok outcome) kernel became before after left old new told row seen =
    ends_called guest outcome guest.memory step seen.1 told (row outcome seen.0)
acts_row Does guest step (Err stop) kernel became before after left old new told row rest =
    subst (λ (at : Contents). o32.Stopped step before at) (sym rest) (stopped_before step before)

pub acts_keeps : (Does : Outcome → Kernel → Type 0) (guest : Guest) (step : O32Step) (result : Result Outcome Stop) (kernel became : Kernel) (before after : Contents) (left : List ℕ) (old new : Kept)
    → ((outcome : Outcome) → Does outcome became → step ≡ step_of became guest left guest.memory outcome)
    → Acted Does result kernel became before after left old new → OnOk result (Keeps step kernel left guest old new)
acts_keeps Does guest step (Ok outcome) kernel became before after left old new row seen =
    ends_quietly guest outcome step seen.1 (row outcome seen.0)
acts_keeps Does guest step (Err stop) kernel became before after left old new row rest = tt
