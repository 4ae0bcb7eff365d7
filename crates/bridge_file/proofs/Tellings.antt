-- What is said of a native call that tells a text or a place, said of the o32 call that it tells for.
use Rattle.std.proofs.Common.{◌≡◌, ℕ, List, refl, sym, ap, subst, ◌∙◌}
use Rattle.guest_space.specs.Memory.{Memory}
use Rattle.kernel_core.specs.declared.error.Errno.{Errno}
use Rattle.kernel_core.specs.declared.error.Errno.TheVariants.{EPERM}
use Rattle.kernel_core.specs.declared.reply.Reply.{Reply}
use Rattle.kernel_model.specs.Pipes.{Sent, nothing}
use Rattle.kernel_model.specs.State.{Kernel}
use Rattle.native_calls.specs.Answered as native
use Rattle.native_calls.specs.History.{moment, opening}
use Rattle.native_calls.specs.Step as native_step
use Rattle.native_calls.specs.Step.{NativeStep}
use Rattle.o32_model.specs.Answered as o32
use Rattle.o32_model.specs.Effects.{Effected}
use Rattle.o32_model.specs.Logs.{Kept}
use Rattle.o32_model.specs.Step as o32_step
use Rattle.o32_model.specs.Step.{Guest, O32Step}
use Rattle.o32_model.specs.declared.call_words.CallWords.{CallWords}
use Rattle.o32_model.specs.declared.outcome.Outcome.{Outcome}
use Rattle.outside.specs.Streams.{Contents}
use Rattle.bridge_paths.proofs.Passed.{Alike, called_alike, keeps}
use Rattle.bridge_paths.specs.Passed.{Logged, Keeps, reached}
use Rattle.bridge_file.specs.declared.telling.Told.{Told}
use Rattle.bridge_file.specs.inside.Tells.{Tells, memory_told, outcome_told}

pub tells_alike : {guest : Guest} {address : ℕ} {told : Told} {nstep : NativeStep} {ostep : O32Step} → Tells guest address told nstep ostep → Alike nstep ostep
tells_alike t = record { kernel = t.kernel; left = t.left; sent = t.sends ∙ sym t.native_sends }

tells_memory : {guest : Guest} {address : ℕ} {told : Told} {nstep : NativeStep} {ostep : O32Step} {reply : Reply} {kernel : Kernel} {after : List ℕ} {from to : Contents} (old new : Memory)
    → guest.memory ≡ old → Tells guest address told nstep ostep → native.Called nstep reply kernel after from to → new ≡ memory_told old address told after reply → new ≡ ostep.memory
tells_memory {guest} {address} {told} {nstep} {ostep} {reply} {kernel} {after} old new same t called stored =
    stored
    ∙ ap (λ (m : Memory). memory_told m address told after reply) (sym same)
    ∙ ap (λ (m : List ℕ). memory_told guest.memory address told m reply) called.stored
    ∙ ap (λ (r : Reply). memory_told guest.memory address told nstep.memory r) called.answered
    ∙ sym t.stored_so

pub tells_called : (outcome : Outcome) {guest : Guest} {address : ℕ} {told : Told} {nstep : NativeStep} {ostep : O32Step} {reply : Reply} {kernel : Kernel} {after : List ℕ} {from to : Contents} (words : CallWords) (old new : Memory)
    → guest.words ≡ words → guest.memory ≡ old → Tells guest address told nstep ostep → native.Called nstep reply kernel after from to → new ≡ memory_told old address told after reply
    → outcome ≡ outcome_told words old address told after reply → o32.Called ostep outcome kernel new guest.processor from to
tells_called outcome {guest} {address} {told} {nstep} {ostep} {reply} {kernel} {after} words old new named same t called stored came =
    called_alike (tells_alike t) called
    (came
    ∙ ap (λ (w : CallWords). outcome_told w old address told after reply) (sym named)
    ∙ ap (λ (m : Memory). outcome_told guest.words m address told after reply) (sym same)
    ∙ ap (λ (m : List ℕ). outcome_told guest.words guest.memory address told m reply) called.stored
    ∙ ap (λ (r : Reply). outcome_told guest.words guest.memory address told nstep.memory r) called.answered
    ∙ sym t.came)
    (tells_memory old new same t called stored) (sym t.set)

pub tells_keeps : {guest : Guest} {address : ℕ} {told : Told} {nstep : NativeStep} {ostep : O32Step} {reply : Reply} {became : Kernel} {after : List ℕ} {from to : Contents} (old new : Memory) (kernel : Kernel) (left : List ℕ) (before kept : Kept)
    → guest.memory ≡ old → Tells guest address told nstep ostep → native.Called nstep reply became after from to → new ≡ memory_told old address told after reply
    → Logged before.native kept.native (opening kernel left) (moment nstep.kernel nstep.left nstep.sent)
    → Effected before.effects kept.effects (reached guest.processor old.pages nothing) (reached guest.processor new.pages nothing)
    → Keeps ostep kernel left guest before kept
tells_keeps {guest} {address} {told} {nstep} {ostep} old new kernel left before kept same t called stored logged effected =
    let there : new ≡ ostep.memory = tells_memory old new same t called stored in
    keeps (tells_alike t) logged
    (subst (λ (m : Memory). Effected before.effects kept.effects (reached guest.processor m.pages nothing) (reached guest.processor ostep.memory.pages ostep.sent)) (sym same)
    (subst (λ (m : Memory). Effected before.effects kept.effects (reached guest.processor old.pages nothing) (reached guest.processor m.pages ostep.sent)) there
    (subst (λ (x : Sent). Effected before.effects kept.effects (reached guest.processor old.pages nothing) (reached guest.processor new.pages x)) (sym t.sends) effected)))

-- after an error nothing is stored

pub told_of_failure : (memory : Memory) (address : ℕ) (told : Told) (room : List ℕ) (error : Errno) → memory_told memory address told room (native_step.failure error) ≡ memory
told_of_failure memory address told room EPERM = refl
told_of_failure memory address told room _ = refl

pub outcome_told_of_failure : (words : CallWords) (memory : Memory) (address : ℕ) (told : Told) (room : List ℕ) (error : Errno) → outcome_told words memory address told room (native_step.failure error) ≡ o32_step.failure error
outcome_told_of_failure words memory address told room EPERM = refl
outcome_told_of_failure words memory address told room _ = refl
