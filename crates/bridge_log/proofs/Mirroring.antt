-- What is said of a native call, said of the o32 call that it mirrors.
use Rattle.std.proofs.Common.{◌≡◌, ℕ, List, refl, sym, ap, ◌∙◌}
use Rattle.kernel_core.specs.declared.reply.Reply.{Reply}
use Rattle.kernel_model.specs.Came.{Did}
use Rattle.kernel_model.specs.State.{Kernel}
use Rattle.native_calls.specs.Answered as native
use Rattle.native_calls.specs.History.{moment, opening}
use Rattle.native_calls.specs.Step as native_step
use Rattle.native_calls.specs.Step.{NativeStep}
use Rattle.o32_model.specs.Answered as o32
use Rattle.o32_model.specs.Logs.{Kept}
use Rattle.o32_model.specs.Step as o32_step
use Rattle.o32_model.specs.Step.{Guest, O32Step}
use Rattle.o32_model.specs.declared.outcome.Outcome.{Outcome}
use Rattle.outside.specs.Streams.{Contents}
use Rattle.bridge_log.proofs.Ends.{Alike, called_alike, keeps, effected_quietly}
use Rattle.bridge_log.proofs.Replies.{Fits, outcome_of_given}
use Rattle.bridge_log.specs.Keeping.{Logged, Keeps}
use Rattle.bridge_log.specs.Mirrors.{Mirrors}
use Rattle.bridge_log.specs.Outcomes.{by_reply}

pub mirrors_alike : {guest : Guest} {of : List ℕ → Reply → Outcome} {nstep : NativeStep} {ostep : O32Step} → Mirrors guest of nstep ostep → Alike nstep ostep
mirrors_alike m = record { kernel = m.kernel; left = m.left; sent = m.sends ∙ sym m.native_sends }

pub mirrors_called : (outcome : Outcome) {guest : Guest} {of : List ℕ → Reply → Outcome} {nstep : NativeStep} {ostep : O32Step} {reply : Reply} {kernel : Kernel} {room : List ℕ} {before after : Contents}
    → outcome ≡ of room reply → Mirrors guest of nstep ostep → native.Called nstep reply kernel room before after
    → o32.Called ostep outcome kernel guest.memory guest.processor before after
mirrors_called outcome {of = of} {nstep = nstep} {reply = reply} came m called =
    called_alike (mirrors_alike m) called (came ∙ ap (λ (r : List ℕ). of r reply) called.stored ∙ ap (of nstep.memory) called.answered ∙ sym m.came) (sym m.stored) (sym m.set)

pub mirrors_keeps : {guest : Guest} {of : List ℕ → Reply → Outcome} {nstep : NativeStep} {ostep : O32Step} {kernel : Kernel} {left : List ℕ} {old new : Kept} → Mirrors guest of nstep ostep
    → Logged old.native new.native (opening kernel left) (moment nstep.kernel nstep.left nstep.sent) → new.effects ≡ old.effects → Keeps ostep kernel left guest old new
mirrors_keeps {guest} {nstep} {ostep} {kernel} {left} {old} {new} m logged same =
    keeps (mirrors_alike m) logged (effected_quietly old new guest.processor guest.memory ostep.memory ostep.sent same m.stored m.sends)

-- a row whose number is the reply and the result
pub mirrors_gives : (guest : Guest) (memory : List ℕ) (did : Did Kernel ℕ) (left : List ℕ) → Fits did.came → Mirrors guest (by_reply guest.words) (native_step.gives memory did left) (o32_step.gives guest did left)
mirrors_gives guest memory did left fits = record {
  kernel = refl;
  left = refl;
  native_sends = refl;
  sends = refl;
  stored = refl;
  set = refl;
  came = sym (outcome_of_given guest.words did.came fits);
}
