-- A call that has accepted by native calls, and stored what it tells.
use Rattle.std.proofs.Common.{◌≡◌, ℕ, List, Option, Some, refl, sym, subst}
use Rattle.guest_space.specs.Memory.{Memory}
use Rattle.kernel_core.specs.declared.log_entry.LogEntry.{LogEntry}
use Rattle.kernel_core.specs.declared.record.Effect.{Effect}
use Rattle.kernel_model.specs.Pipes.{Sent, nothing}
use Rattle.kernel_model.specs.State.{Kernel}
use Rattle.mips_exec.specs.Processor.{Processor}
use Rattle.native_calls.specs.History.{moment, opening}
use Rattle.o32_model.specs.Answered as o32
use Rattle.o32_model.specs.Effects.{Effected}
use Rattle.o32_model.specs.Logs.{Kept}
use Rattle.o32_model.specs.Step.{Guest, O32Step}
use Rattle.o32_model.specs.declared.outcome.Outcome.{Outcome}
use Rattle.outside.proofs.OutputLemmas.{GainsText-nothing}
use Rattle.outside.specs.Streams.{Contents}
use Rattle.bridge_signal_state.specs.Ends as ends
use Rattle.bridge_acceptance.specs.declared.telling.Told.{Told}
use Rattle.bridge_acceptance.specs.inside.Telling.{ended, outcome_of, telling}
use Rattle.bridge_signal_state.specs.Passed.{Keeps, Logged, reached}
use Rattle.bridge_signal_state.specs.Acts.{Moves}

pub ends_called : {kernel became : Kernel} {before after : Contents} {left : List ℕ} {old kept : Kept} (guest : Guest) (outcome : Outcome) (memory : Memory) (told : Told) (step : O32Step)
    → Moves kernel became before after left old kept → before.left ≡ Some left → step ≡ ended became guest left (telling told memory) → outcome ≡ outcome_of guest.words told
    → o32.Called step outcome became memory guest.processor before after
ends_called {kernel} {became} {before} {after} {left} guest outcome memory told step m tells row is =
    subst (λ (s : O32Step). o32.Called s outcome became memory guest.processor before after) (sym row)
    (subst (λ (at : Contents). o32.Called (ended became guest left (telling told memory)) outcome became memory guest.processor before at) (sym m.rest)
    (record {
      came = is;
      became = refl;
      stored = refl;
      set = refl;
      rest = tells;
      to_out = GainsText-nothing before.out;
      to_err = GainsText-nothing before.err;
    }))

pub ends_keeps : {kernel became : Kernel} {before after : Contents} {left : List ℕ} {old kept : Kept} (guest : Guest) (memory : Memory) (told : Told) (step : O32Step) (new : Kept)
    → Moves kernel became before after left old kept → step ≡ ended became guest left (telling told memory)
    → new.native ≡ kept.native → ((processor : Processor) (sent : Sent) → Effected kept.effects new.effects (reached processor guest.memory.pages sent) (reached processor memory.pages sent))
    → Keeps step kernel left guest old new
ends_keeps {kernel} {became} {left = left} {old = old} {kept = kept} guest memory told step new m row native effects =
    subst (λ (s : O32Step). Keeps s kernel left guest old new) (sym row)
    (record {
      native = subst (λ (n : Option (List LogEntry)). Logged old.native n (opening kernel left) (moment became left nothing)) (sym native) (m.logged nothing);
      effects =
          subst (λ (e : Option (List Effect)). Effected e new.effects (reached guest.processor guest.memory.pages nothing) (reached guest.processor memory.pages nothing)) m.effects (effects guest.processor nothing);
    })

-- an end
pub end_keeps : {kernel became : Kernel} {before after : Contents} {left : List ℕ} {old kept : Kept} (memory stored : Memory) (new : Kept)
    → Moves kernel became before after left old kept → new.native ≡ kept.native
    → ((processor : Processor) (sent : Sent) → Effected kept.effects new.effects (reached processor memory.pages sent) (reached processor stored.pages sent))
    → ends.Keeps kernel became memory.pages stored.pages left old new
end_keeps {kernel} {became} {left = left} {old = old} memory stored new m native effects = record {
  native = λ sent. subst (λ (n : Option (List LogEntry)). Logged old.native n (moment kernel left sent) (moment became left sent)) (sym native) (m.logged sent);
  effects = λ processor sent.
      subst (λ (e : Option (List Effect)). Effected e new.effects (reached processor memory.pages sent) (reached processor stored.pages sent)) m.effects (effects processor sent);
}
