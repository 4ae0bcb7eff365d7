-- Calls that change the program's memory alone, behind native calls that change nothing.
use Rattle.std.proofs.Common.{◌≡◌, ℕ, List, Option, Some, refl, sym, ap, subst}
use Rattle.guest_space.specs.Memory.{Memory}
use Rattle.kernel_core.specs.declared.log_entry.LogEntry.{LogEntry}
use Rattle.kernel_core.specs.declared.record.Effect.{Effect}
use Rattle.kernel_model.specs.Pipes.{Sent, nothing}
use Rattle.kernel_model.specs.State.{Kernel}
use Rattle.mips_exec.specs.Processor.{Processor}
use Rattle.native_calls.specs.History.{moment, opening}
use Rattle.o32_model.specs.Answered as o32
use Rattle.o32_model.specs.Effects.{Effected}
use Rattle.o32_model.specs.Logs.{Kept}
use Rattle.o32_model.specs.Step.{Guest, O32Step}
use Rattle.o32_model.specs.declared.outcome.Outcome.{Outcome}
use Rattle.outside.proofs.OutputLemmas.{GainsText-nothing}
use Rattle.outside.specs.Streams.{Contents}
use Rattle.bridge_log.specs.Keeping.{Logged, Keeps, reached}
use Rattle.bridge_log.specs.Looks.{Unmoved}
use Rattle.bridge_log.specs.Storing.{Ending, ended}

pub ended_called : {kernel became : Kernel} {before after : Contents} {left : List ℕ} {old kept : Kept} (guest : Guest) (outcome : Outcome) (memory : Memory) (ending : Ending) (step : O32Step)
    → Unmoved kernel became before after left old kept → before.left ≡ Some left → step ≡ ended kernel guest.processor left ending → ending ≡ record { outcome = outcome; memory = memory }
    → o32.Called step outcome became memory guest.processor before after
ended_called {kernel} {became} {before} {after} {left} guest outcome memory ending step u told row is =
    subst (λ (s : O32Step). o32.Called s outcome became memory guest.processor before after) (sym row)
    (subst (λ (at : Contents). o32.Called (ended kernel guest.processor left ending) outcome became memory guest.processor before at) (sym u.rest)
    (record {
      came = sym (ap (λ (e : Ending). e.outcome) is);
      became = u.same;
      stored = sym (ap (λ (e : Ending). e.memory) is);
      set = refl;
      rest = told;
      to_out = GainsText-nothing before.out;
      to_err = GainsText-nothing before.err;
    }))

pub ended_keeps : {kernel became : Kernel} {before after : Contents} {left : List ℕ} {old kept : Kept} (guest : Guest) (outcome : Outcome) (from memory : Memory) (ending : Ending) (step : O32Step) (new : Kept)
    → Unmoved kernel became before after left old kept → guest.memory ≡ from → step ≡ ended kernel guest.processor left ending → ending ≡ record { outcome = outcome; memory = memory }
    → new.native ≡ kept.native → ((processor : Processor) (sent : Sent) → Effected kept.effects new.effects (reached processor from.pages sent) (reached processor memory.pages sent))
    → Keeps step kernel left guest old new
ended_keeps {kernel} {left = left} {old = old} {kept = kept} guest outcome from memory ending step new u same row is native effects =
    subst (λ (s : O32Step). Keeps s kernel left guest old new) (sym row)
    (record {
      native = subst (λ (n : Option (List LogEntry)). Logged old.native n (opening kernel left) (moment kernel left nothing)) (sym native) (u.logged nothing);
      effects =
          subst (λ (m : Memory). Effected old.effects new.effects (reached guest.processor guest.memory.pages nothing) (reached guest.processor m.pages nothing)) (sym (ap (λ (e : Ending). e.memory) is))
          (subst (λ (m : Memory). Effected old.effects new.effects (reached guest.processor m.pages nothing) (reached guest.processor memory.pages nothing)) (sym same)
          (subst (λ (e : Option (List Effect)). Effected e new.effects (reached guest.processor from.pages nothing) (reached guest.processor memory.pages nothing)) u.effects (effects guest.processor nothing)));
    })
