-- An o32 call that is one native call: what was said of the native one, said of the o32 one.
use Rattle.std.proofs.Common.{◌≡◌, ℕ, List, [], Option, Some, refl, sym, ap, subst, ◌∙◌, inl, inr, Result, Ok, Err, IsErr}
use Rattle.guest_space.specs.Memory.{Memory}
use Rattle.kernel_core.specs.declared.core_error.Stop.{Stop}
use Rattle.kernel_core.specs.declared.record.Effect.{Effect}
use Rattle.kernel_core.specs.declared.reply.Reply.{Reply}
use Rattle.kernel_model.specs.Pipes.{Sent, nothing}
use Rattle.kernel_model.specs.State.{Kernel}
use Rattle.mips_exec.specs.Processor.{Processor}
use Rattle.native_calls.specs.Answered as native
use Rattle.native_calls.specs.History.{Moment, moment, opening}
use Rattle.native_calls.specs.Step.{NativeStep}
use Rattle.o32_model.specs.Answered as o32
use Rattle.o32_model.specs.Effects.{Target, Effected}
use Rattle.o32_model.specs.Logs.{Kept}
use Rattle.o32_model.specs.Step.{Guest, O32Step}
use Rattle.o32_model.specs.declared.outcome.Outcome.{Outcome}
use Rattle.outside.proofs.OutputLemmas.{IsPrefix-empty, GainsBetween-exact, GainsBetween-lower, GainsBetween-nothing, GainsText-nothing}
use Rattle.outside.specs.Output.{GainsText, GainsBetween}
use Rattle.outside.specs.Streams.{Contents}
use Rattle.bridge_log.proofs.Histories.{logged_none}
use Rattle.bridge_log.proofs.Journals.{effected_none}
use Rattle.bridge_log.specs.Keeping.{Logged, Keeps, reached}

-- the same was done to the kernel, taken and sent
pub record Alike (nstep : NativeStep) (ostep : O32Step) : Type 0 where
  pub kernel : ostep.kernel ≡ nstep.kernel
  pub left : ostep.left ≡ nstep.left
  pub sent : ostep.sent ≡ nstep.sent

pub called_alike : {nstep : NativeStep} {ostep : O32Step} {reply : Reply} {outcome : Outcome} {kernel : Kernel} {room : List ℕ} {memory : Memory} {processor : Processor} {before after : Contents}
    → Alike nstep ostep → native.Called nstep reply kernel room before after → outcome ≡ ostep.outcome → memory ≡ ostep.memory → processor ≡ ostep.processor
    → o32.Called ostep outcome kernel memory processor before after
called_alike {nstep} {ostep} {before = before} {after = after} alike called came stored set = record {
  came = came;
  became = called.became ∙ sym alike.kernel;
  stored = stored;
  set = set;
  rest = called.rest ∙ ap Some (sym alike.left);
  to_out = subst (λ (s : Sent). GainsText before.out after.out s.out) (sym alike.sent) called.to_out;
  to_err = subst (λ (s : Sent). GainsText before.err after.err s.err) (sym alike.sent) called.to_err;
}

pub stopped_alike : {nstep : NativeStep} {ostep : O32Step} {before after : Contents} → Alike nstep ostep → native.Stopped nstep before after → o32.Stopped ostep before after
stopped_alike {nstep} {ostep} {before} {after} alike stopped = record {
  rest = elim stopped.rest [ inl same ↦ inl same | inr taken ↦ inr (taken ∙ ap Some (sym alike.left)) ];
  to_out = subst (λ (s : Sent). GainsBetween before.out after.out [] s.out) (sym alike.sent) stopped.to_out;
  to_err = subst (λ (s : Sent). GainsBetween before.err after.err [] s.err) (sym alike.sent) stopped.to_err;
}

-- A stop after the call, for want of memory, and one before it

pub native_stopped_after : {nstep : NativeStep} {reply : Reply} {kernel : Kernel} {room : List ℕ} {before after : Contents} → native.Called nstep reply kernel room before after → native.Stopped nstep before after
native_stopped_after {nstep} called = record {
  rest = inr called.rest;
  to_out = GainsBetween-lower (IsPrefix-empty nstep.sent.out) (GainsBetween-exact called.to_out);
  to_err = GainsBetween-lower (IsPrefix-empty nstep.sent.err) (GainsBetween-exact called.to_err);
}

pub native_stopped_before : (nstep : NativeStep) (at : Contents) → native.Stopped nstep at at
native_stopped_before nstep at = record {
  rest = inl refl;
  to_out = GainsBetween-nothing at.out nstep.sent.out;
  to_err = GainsBetween-nothing at.err nstep.sent.err;
}

-- a result that is an error, before the call
pub native_fails_before : (nstep : NativeStep) (result : Result Reply Stop) (kernel : Kernel) (room : List ℕ) (at : Contents) → IsErr result → native.Answers nstep result kernel room at at
native_fails_before nstep (Ok reply) kernel room at failed = absurd cc
native_fails_before nstep (Err stop) kernel room at failed = native_stopped_before nstep at

pub stopped_after : {nstep : NativeStep} {ostep : O32Step} {reply : Reply} {kernel : Kernel} {room : List ℕ} {before after : Contents} → Alike nstep ostep → native.Called nstep reply kernel room before after → o32.Stopped ostep before after
stopped_after alike called = stopped_alike alike (native_stopped_after called)

pub stopped_before : (ostep : O32Step) (at : Contents) → o32.Stopped ostep at at
stopped_before ostep at = record {
  rest = inl refl;
  to_out = GainsBetween-nothing at.out ostep.sent.out;
  to_err = GainsBetween-nothing at.err ostep.sent.err;
}

pub fails_before : (ostep : O32Step) (result : Result Outcome Stop) (kernel : Kernel) (memory : Memory) (processor : Processor) (at : Contents) → IsErr result → o32.Answers ostep result kernel memory processor at at
fails_before ostep (Ok outcome) kernel memory processor at failed = absurd cc
fails_before ostep (Err stop) kernel memory processor at failed = stopped_before ostep at

-- What is kept

logged_alike : {nstep : NativeStep} {ostep : O32Step} → Alike nstep ostep → moment nstep.kernel nstep.left nstep.sent ≡ moment ostep.kernel ostep.left ostep.sent
logged_alike alike = cc

pub keeps : {nstep : NativeStep} {ostep : O32Step} {kernel : Kernel} {left : List ℕ} {guest : Guest} {old new : Kept} → Alike nstep ostep
    → Logged old.native new.native (opening kernel left) (moment nstep.kernel nstep.left nstep.sent)
    → Effected old.effects new.effects (reached guest.processor guest.memory.pages nothing) (reached guest.processor ostep.memory.pages ostep.sent)
    → Keeps ostep kernel left guest old new
keeps {nstep} {ostep} {kernel} {left} {guest} {old} {new} alike logged effected = record {
  native = subst (λ (to : Moment). Logged old.native new.native (opening kernel left) to) (logged_alike alike) logged;
  effects = effected;
}

unchanged : (processor : Processor) (memory changed : Memory) (sent : Sent) → changed ≡ memory → sent ≡ nothing → reached processor memory.pages nothing ≡ reached processor changed.pages sent
unchanged processor memory changed sent kept none = cc

-- where no page changes and nothing is sent, no effect is kept
pub effected_quietly : (old new : Kept) (processor : Processor) (memory changed : Memory) (sent : Sent) → new.effects ≡ old.effects → changed ≡ memory → sent ≡ nothing
    → Effected old.effects new.effects (reached processor memory.pages nothing) (reached processor changed.pages sent)
effected_quietly old new processor memory changed sent same kept none =
    subst (λ (effects : Option (List Effect)). Effected old.effects effects (reached processor memory.pages nothing) (reached processor changed.pages sent)) (sym same)
    (subst (λ (to : Target). Effected old.effects old.effects (reached processor memory.pages nothing) to) (unchanged processor memory changed sent kept none)
    (effected_none old.effects (reached processor memory.pages nothing)))

-- A call that makes no native call

-- nothing was done, taken or sent, and this is the outcome
pub record Still (guest : Guest) (kernel : Kernel) (left : List ℕ) (outcome : Outcome) (step : O32Step) : Type 0 where
  pub kernel_stays : step.kernel ≡ kernel
  pub left_stays : step.left ≡ left
  pub sends : step.sent ≡ nothing
  pub stored : step.memory ≡ guest.memory
  pub set : step.processor ≡ guest.processor
  pub came : step.outcome ≡ outcome

pub still_called : (guest : Guest) (kernel : Kernel) (left : List ℕ) (outcome : Outcome) (step : O32Step) (at : Contents) → at.left ≡ Some left → Still guest kernel left outcome step → o32.Called step outcome kernel guest.memory guest.processor at at
still_called guest kernel left outcome step at told s = record {
  came = sym s.came;
  became = sym s.kernel_stays;
  stored = sym s.stored;
  set = sym s.set;
  rest = told ∙ ap Some (sym s.left_stays);
  to_out = subst (λ (x : Sent). GainsText at.out at.out x.out) (sym s.sends) (GainsText-nothing at.out);
  to_err = subst (λ (x : Sent). GainsText at.err at.err x.err) (sym s.sends) (GainsText-nothing at.err);
}

still_moment : (kernel : Kernel) (left : List ℕ) (step : O32Step) → step.kernel ≡ kernel → step.left ≡ left → step.sent ≡ nothing → opening kernel left ≡ moment step.kernel step.left step.sent
still_moment kernel left step same rest silent = cc

pub still_keeps : (guest : Guest) (kernel : Kernel) (left : List ℕ) (outcome : Outcome) (step : O32Step) (kept : Kept) → Still guest kernel left outcome step → Keeps step kernel left guest kept kept
still_keeps guest kernel left outcome step kept s = record {
  native = subst (λ (to : Moment). Logged kept.native kept.native (opening kernel left) to) (still_moment kernel left step s.kernel_stays s.left_stays s.sends) (logged_none kept.native (opening kernel left));
  effects = effected_quietly kept kept guest.processor guest.memory step.memory step.sent refl s.stored s.sends;
}
