-- What is said of a native call that gives a structure, said of the o32 call that it stores for.
use Rattle.std.proofs.Common.{◌≡◌, ℕ, ℤ, pos, negsuc, ◌<ℤ◌, List, [], refl, sym, ap, subst, ◌∙◌, arith}
use Rattle.std.proofs.lemmas.Int.{ints}
use Rattle.std.specs.Prelude.{Bool, length, if◌then◌else◌}
use Rattle.guest_space.specs.Bytes.{copied_out}
use Rattle.guest_space.specs.Memory.{Memory}
use Rattle.kernel_core.specs.declared.error.Errno.{Errno}
use Rattle.kernel_core.specs.declared.error.Errno.TheVariants.{EPERM}
use Rattle.kernel_core.specs.declared.reply.Reply.{Reply}
use Rattle.kernel_core.specs.declared.reply.Reply.TheVariants as replies
use Rattle.kernel_core.specs.declared.reply.Wake.{Wake}
use Rattle.kernel_model.specs.Pipes.{Sent, nothing}
use Rattle.kernel_model.specs.State.{Kernel}
use Rattle.native_calls.specs.Answered as native
use Rattle.native_calls.specs.History.{moment, opening}
use Rattle.native_calls.specs.Step as native_step
use Rattle.native_calls.specs.Step.{NativeStep}
use Rattle.o32_model.specs.Answered as o32
use Rattle.o32_model.specs.Effects.{Effected}
use Rattle.o32_model.specs.GuestBytes.{is_storable, with_stored}
use Rattle.o32_model.specs.Logs.{Kept}
use Rattle.o32_model.specs.Step.{Guest, O32Step}
use Rattle.o32_model.specs.declared.outcome.Outcome.{Outcome}
use Rattle.outside.specs.Streams.{Contents}
use Rattle.bridge_log.proofs.Ends.{Alike, called_alike, keeps}
use Rattle.bridge_log.proofs.Filling.{stored_nothing}
use Rattle.bridge_log.specs.Keeping.{Logged, Keeps, reached}
use Rattle.bridge_log.specs.Outcomes.{outcome_of}
use Rattle.bridge_io.specs.declared.structures.Structure.{Structure}
use Rattle.bridge_io.specs.inside.Stores.{Stores, bytes_told}

stores_alike : {guest : Guest} {address : ℕ} {structure : Structure} {nstep : NativeStep} {ostep : O32Step} → Stores guest address structure nstep ostep → Alike nstep ostep
stores_alike s = record { kernel = s.kernel; left = s.left; sent = s.sends ∙ sym s.native_sends }

stores_memory : {guest : Guest} {address : ℕ} {structure : Structure} {nstep : NativeStep} {ostep : O32Step} {reply : Reply} {kernel : Kernel} {after : List ℕ} {from to : Contents} (old new : Memory)
    → guest.memory ≡ old → Stores guest address structure nstep ostep → native.Called nstep reply kernel after from to → new ≡ with_stored old address (bytes_told structure after reply) → new ≡ ostep.memory
stores_memory {guest} {address} {structure} {nstep} {ostep} {reply} {kernel} {after} old new same s called stored =
    stored
    ∙ ap (λ (m : Memory). with_stored m address (bytes_told structure after reply)) (sym same)
    ∙ ap (λ (m : List ℕ). with_stored guest.memory address (bytes_told structure m reply)) called.stored
    ∙ ap (λ (r : Reply). with_stored guest.memory address (bytes_told structure nstep.memory r)) called.answered
    ∙ sym s.stored

pub stores_called : (outcome : Outcome) {guest : Guest} {address : ℕ} {structure : Structure} {nstep : NativeStep} {ostep : O32Step} {reply : Reply} {kernel : Kernel} {after : List ℕ} {from to : Contents} (old new : Memory)
    → guest.memory ≡ old → Stores guest address structure nstep ostep → native.Called nstep reply kernel after from to → new ≡ with_stored old address (bytes_told structure after reply) → outcome ≡ outcome_of guest.words reply
    → o32.Called ostep outcome kernel new guest.processor from to
stores_called outcome {guest} old new same s called stored came =
    called_alike (stores_alike s) called (came ∙ ap (outcome_of guest.words) called.answered ∙ sym s.came) (stores_memory old new same s called stored) (sym s.set)

pub stores_keeps : {guest : Guest} {address : ℕ} {structure : Structure} {nstep : NativeStep} {ostep : O32Step} {reply : Reply} {became : Kernel} {after : List ℕ} {from to : Contents} (old new : Memory) (kernel : Kernel) (left : List ℕ) (before kept : Kept)
    → guest.memory ≡ old → Stores guest address structure nstep ostep → native.Called nstep reply became after from to → new ≡ with_stored old address (bytes_told structure after reply)
    → Logged before.native kept.native (opening kernel left) (moment nstep.kernel nstep.left nstep.sent)
    → Effected before.effects kept.effects (reached guest.processor old.pages nothing) (reached guest.processor new.pages nothing)
    → Keeps ostep kernel left guest before kept
stores_keeps {guest} {address} {structure} {nstep} {ostep} old new kernel left before kept same s called stored logged effected =
    let there : new ≡ ostep.memory = stores_memory old new same s called stored in
    keeps (stores_alike s) logged
    (subst (λ (m : Memory). Effected before.effects kept.effects (reached guest.processor m.pages nothing) (reached guest.processor ostep.memory.pages ostep.sent)) (sym same)
    (subst (λ (m : Memory). Effected before.effects kept.effects (reached guest.processor old.pages nothing) (reached guest.processor m.pages ostep.sent)) there
    (subst (λ (x : Sent). Effected before.effects kept.effects (reached guest.processor old.pages nothing) (reached guest.processor new.pages x)) (sym s.sends) effected)))

-- a reply that gives no structure

told_none : (structure : Structure) (memory : List ℕ) (number : ℤ) → number <ℤ pos 0 → bytes_told structure memory (replies.Done number) ≡ []
told_none structure memory (pos number) below = absurd (omega (arith, ints))
told_none structure memory (negsuc number) below = refl

pub unstored_error : (old : Memory) (address : ℕ) (structure : Structure) (memory : List ℕ) (number : ℤ) (reply : Reply) → reply ≡ replies.Done number → number <ℤ pos 0
    → old ≡ with_stored old address (bytes_told structure memory reply)
unstored_error old address structure memory number reply is below =
    sym (ap (with_stored old address) (ap (bytes_told structure memory) is ∙ told_none structure memory number below) ∙ stored_nothing old address)

pub unstored_sleep : (old : Memory) (address : ℕ) (structure : Structure) (memory : List ℕ) (wake : Wake) (reply : Reply) → reply ≡ replies.Sleep wake
    → old ≡ with_stored old address (bytes_told structure memory reply)
unstored_sleep old address structure memory wake reply is =
    sym (ap (with_stored old address) (ap (bytes_told structure memory) is) ∙ stored_nothing old address)

pub told_of_failure : (structure : Structure) (memory : List ℕ) (error : Errno) → bytes_told structure memory (native_step.failure error) ≡ []
told_of_failure structure memory EPERM = refl
told_of_failure structure memory _ = refl

-- a row that is refused
pub stored_of_failure : (memory : Memory) (address : ℕ) (structure : Structure) (room : List ℕ) (error : Errno) → memory ≡ with_stored memory address (bytes_told structure room (native_step.failure error))
stored_of_failure memory address structure room error = sym (ap (with_stored memory address) (told_of_failure structure room error) ∙ stored_nothing memory address)

-- what is stored, by whether it can be
pub storable_word : (memory : Memory) (address : ℕ) (bytes : List ℕ) (b : Bool) → is_storable memory address (length bytes) ≡ b → with_stored memory address bytes ≡ (if b then copied_out memory address bytes else memory)
storable_word memory address bytes b is = ap (λ (b : Bool). if b then copied_out memory address bytes else memory) is
