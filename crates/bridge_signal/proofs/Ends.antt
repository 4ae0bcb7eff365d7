-- A call of a program that has acted by native calls, and ends.
use Rattle.std.proofs.Common.{◌≡◌, ℕ, List, Option, Some, Result, Ok, Err, OnOk, refl, sym, ap, subst}
use Rattle.kernel_core.specs.declared.core_error.Stop.{Stop}
use Rattle.guest_space.specs.Memory.{Memory}
use Rattle.kernel_core.specs.declared.log_entry.LogEntry.{LogEntry}
use Rattle.kernel_core.specs.declared.record.Effect.{Effect}
use Rattle.kernel_model.specs.Pipes.{Sent, nothing}
use Rattle.kernel_model.specs.State.{Kernel}
use Rattle.mips_exec.specs.Processor.{Processor}
use Rattle.native_calls.specs.History.{moment, opening}
use Rattle.o32_model.specs.Answered as o32
use Rattle.o32_model.specs.Effects.{Effected}
use Rattle.o32_model.specs.Logs.{Kept}
use Rattle.o32_model.specs.Step.{Guest, O32Step}
use Rattle.o32_model.specs.declared.outcome.Outcome.{Outcome}
use Rattle.outside.proofs.OutputLemmas.{GainsText-nothing}
use Rattle.outside.specs.Streams.{Contents}
use Rattle.bridge_signal_state.proofs.Passed.{stopped_before}
use Rattle.bridge_signal_state.proofs.Passed.{effected_none}
use Rattle.bridge_signal_state.specs.Passed.{Keeps, Logged, reached}
use Rattle.bridge_signal_state.specs.Acts.{Acted, Moves}
use Rattle.bridge_signal_state.specs.Passed.{Ending, ended, ending}

pub ends_called : {kernel became : Kernel} {before after : Contents} {left : List ℕ} {old kept : Kept} (outcome : Outcome) (memory : Memory) (processor : Processor) (end : Ending) (step : O32Step)
    → Moves kernel became before after left old kept → before.left ≡ Some left → step ≡ ended became processor left end → end ≡ ending outcome memory
    → o32.Called step outcome became memory processor before after
ends_called {kernel} {became} {before} {after} {left} outcome memory processor end step m told row is =
    subst (λ (s : O32Step). o32.Called s outcome became memory processor before after) (sym row)
    (subst (λ (at : Contents). o32.Called (ended became processor left end) outcome became memory processor before at) (sym m.rest)
    (record {
      came = sym (ap (λ (e : Ending). e.outcome) is);
      became = refl;
      stored = sym (ap (λ (e : Ending). e.memory) is);
      set = refl;
      rest = told;
      to_out = GainsText-nothing before.out;
      to_err = GainsText-nothing before.err;
    }))

-- it changes memory from `from`, where what it writes is kept
pub ends_keeps : {kernel became : Kernel} {before after : Contents} {left : List ℕ} {old kept : Kept} (guest : Guest) (outcome : Outcome) (from memory : Memory) (processor : Processor) (end : Ending) (step : O32Step) (new : Kept)
    → Moves kernel became before after left old kept → guest.memory ≡ from → step ≡ ended became processor left end → end ≡ ending outcome memory
    → new.native ≡ kept.native → ((processor : Processor) (sent : Sent) → Effected kept.effects new.effects (reached processor from.pages sent) (reached processor memory.pages sent))
    → Keeps step kernel left guest old new
ends_keeps {kernel} {became} {left = left} {old = old} {kept = kept} guest outcome from memory processor end step new m same row is native effects =
    subst (λ (s : O32Step). Keeps s kernel left guest old new) (sym row)
    (record {
      native = subst (λ (n : Option (List LogEntry)). Logged old.native n (opening kernel left) (moment became left nothing)) (sym native) (m.logged nothing);
      effects =
          subst (λ (m : Memory). Effected old.effects new.effects (reached guest.processor guest.memory.pages nothing) (reached guest.processor m.pages nothing)) (sym (ap (λ (e : Ending). e.memory) is))
          (subst (λ (m : Memory). Effected old.effects new.effects (reached guest.processor m.pages nothing) (reached guest.processor memory.pages nothing)) (sym same)
          (subst (λ (e : Option (List Effect)). Effected e new.effects (reached guest.processor from.pages nothing) (reached guest.processor memory.pages nothing)) m.effects (effects guest.processor nothing)));
    })

-- it changes no memory
pub ends_quietly : {kernel became : Kernel} {before after : Contents} {left : List ℕ} {old new : Kept} (guest : Guest) (outcome : Outcome) (processor : Processor) (step : O32Step)
    → Moves kernel became before after left old new → step ≡ ended became processor left (ending outcome guest.memory) → Keeps step kernel left guest old new
ends_quietly {new = new} guest outcome processor step m row =
    ends_keeps guest outcome guest.memory guest.memory processor (ending outcome guest.memory) step new m refl row refl refl
    (λ processor sent. effected_none new.effects (reached processor guest.memory.pages sent))

-- A call that has acted, and changed no memory

pub acts_row : (Does : Outcome → Kernel → Type 0) (guest : Guest) (step : O32Step) (result : Result Outcome Stop) (kernel became : Kernel) (memory : Memory) (processor : Processor) (before after : Contents) (left : List ℕ) (old new : Kept)
    → guest.memory ≡ memory → before.left ≡ Some left → ((outcome : Outcome) → Does outcome became → step ≡ ended became processor left (ending outcome guest.memory))
    → Acted Does result kernel became before after left old new → o32.Answers step result became memory processor before after
acts_row Does guest step (Ok outcome) kernel became memory processor before after left old new same told row seen =
    ends_called outcome memory processor (ending outcome guest.memory) step seen.1 told (row outcome seen.0) (ap (ending outcome) same)
acts_row Does guest step (Err stop) kernel became memory processor before after left old new same told row rest =
    subst (λ (at : Contents). o32.Stopped step before at) (sym rest) (stopped_before step before)

pub acts_keeps : (Does : Outcome → Kernel → Type 0) (guest : Guest) (step : O32Step) (result : Result Outcome Stop) (kernel became : Kernel) (processor : Processor) (before after : Contents) (left : List ℕ) (old new : Kept)
    → ((outcome : Outcome) → Does outcome became → step ≡ ended became processor left (ending outcome guest.memory))
    → Acted Does result kernel became before after left old new → OnOk result (Keeps step kernel left guest old new)
acts_keeps Does guest step (Ok outcome) kernel became processor before after left old new row seen =
    ends_quietly guest outcome processor step seen.1 (row outcome seen.0)
acts_keeps Does guest step (Err stop) kernel became processor before after left old new row rest = tt
