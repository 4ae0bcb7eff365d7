-- Bytes that a native call put into host memory, stored to the program's memory.
use Rattle.std.proofs.Common.{◌≡◌, ℕ, zero, suc, ℤ, pos, negsuc, ◌≤ℤ◌, ◌<◌, ◌≤◌, ◌^◌, List, [], length, take, None, refl, sym, ap, subst, ◌∙◌, arith, true}
use Rattle.std.proofs.lemmas.Bool.Decides.{nat_tests}
use Rattle.std.proofs.lemmas.Int.{ints}
use Rattle.std.proofs.Math.Seq.{take-append_seam}
use Rattle.guest_space.specs.Access.{first_denied}
use Rattle.guest_space.specs.Bytes.{copied_out}
use Rattle.guest_space.specs.Memory.{Memory}
use Rattle.guest_space.specs.declared.access.Access.TheVariants.{Store}
use Rattle.host_mem.specs.Memory.{first_address, is_inside, written}
use Rattle.kernel_core.specs.declared.error.Errno.{Errno}
use Rattle.kernel_core.specs.declared.error.Errno.TheVariants.{EPERM}
use Rattle.kernel_core.specs.declared.reply.Reply.{Reply}
use Rattle.kernel_core.specs.declared.reply.Reply.TheVariants as replies
use Rattle.kernel_model.specs.Came.{Came, Done, Refused, Waits}
use Rattle.kernel_model.specs.Pipes.{Sent, nothing}
use Rattle.kernel_model.specs.State.{Kernel}
use Rattle.native_calls.specs.Answered as native
use Rattle.native_calls.specs.History.{moment, opening}
use Rattle.native_calls.specs.Step as native_step
use Rattle.native_calls.specs.Step.{NativeStep}
use Rattle.o32_model.specs.Answered as o32
use Rattle.o32_model.specs.Effects.{Effected}
use Rattle.o32_model.specs.GuestBytes.{with_stored}
use Rattle.o32_model.specs.Logs.{Kept}
use Rattle.o32_model.specs.Step as o32_step
use Rattle.o32_model.specs.Step.{Guest, O32Step}
use Rattle.o32_model.specs.declared.outcome.Outcome.{Outcome}
use Rattle.outside.specs.Streams.{Contents}
use Rattle.bridge_log.proofs.Ends.{Alike, called_alike, keeps}
use Rattle.bridge_log.proofs.Replies.{outcome_of_bytes}
pub use Rattle.bridge_log.proofs.Stores.{stored_nothing}
use Rattle.bridge_log.specs.Bounds.{Bounded}
use Rattle.bridge_log.specs.Fills.{Fills, bytes_back}
use Rattle.bridge_log.specs.Keeping.{Logged, Keeps, reached}
use Rattle.bridge_log.specs.Outcomes.{outcome_of}

-- the bytes that a row gives
abbrev pub given : Came (List ℕ) → List ℕ
given (Done bytes) = bytes
given (Refused error) = []
given (Waits wake) = []

-- Host memory

inside_first : (room bytes : List ℕ) → length bytes ≤ length room → is_inside room first_address (length bytes) ≡ true
inside_first room bytes within = grind (arith, nat_tests)

written_first : (room bytes : List ℕ) → length bytes ≤ length room → take (length bytes) (written room first_address bytes) ≡ bytes
written_first room bytes within = rw (inside_first room bytes within) (take-append_seam bytes _)

back_of_failure : (memory : List ℕ) (error : Errno) → bytes_back memory (native_step.failure error) ≡ []
back_of_failure memory EPERM = refl
back_of_failure memory _ = refl

pub back_is : (room : List ℕ) (came : Came (List ℕ)) → Bounded (λ bytes. length bytes ≤ length room) came
    → bytes_back (native_step.memory_after (written room first_address) room came) (native_step.reply_to (λ bytes. native_step.value (length bytes)) came) ≡ given came
back_is room (Done bytes) within = written_first room bytes within
back_is room (Refused error) within = back_of_failure room error
back_is room (Waits wake) within = refl

-- The program's memory

if_storable : (memory : Memory) (address : ℕ) (bytes : List ℕ) → first_denied Store memory.pages address (length bytes) ≡ None → with_stored memory address bytes ≡ copied_out memory address bytes
if_storable memory address bytes free = rw free

pub stored_is : (memory : Memory) (address room : ℕ) (came : Came (List ℕ)) → Bounded (λ bytes. length bytes ≤ room) came → ((k : ℕ) → k ≤ room → first_denied Store memory.pages address k ≡ None)
    → with_stored memory address (given came) ≡ o32_step.memory_after (copied_out memory address) memory came
stored_is memory address room (Done bytes) within free = if_storable memory address bytes (free (length bytes) within)
stored_is memory address room (Refused error) within free = stored_nothing memory address
stored_is memory address room (Waits wake) within free = stored_nothing memory address

-- The call

pub fills_alike : {guest : Guest} {buffer : ℕ} {room : List ℕ} {nstep : NativeStep} {ostep : O32Step} → Fills guest buffer room nstep ostep → Alike nstep ostep
fills_alike f = record { kernel = f.kernel; left = f.left; sent = f.sends ∙ sym f.native_sends }

pub fills_memory : {guest : Guest} {buffer : ℕ} {room : List ℕ} {nstep : NativeStep} {ostep : O32Step} {reply : Reply} {kernel : Kernel} {after : List ℕ} {from to : Contents} (old new : Memory)
    → guest.memory ≡ old → ((k : ℕ) → k ≤ length room → first_denied Store old.pages buffer k ≡ None)
    → Fills guest buffer room nstep ostep → native.Called nstep reply kernel after from to → new ≡ with_stored old buffer (bytes_back after reply) → new ≡ ostep.memory
fills_memory {guest} {buffer} {room} {nstep} {ostep} {reply} {kernel} {after} old new same free f called stored =
    let back : bytes_back after reply ≡ given f.came =
    ap (λ (m : List ℕ). bytes_back m reply) (called.stored ∙ f.room_after) ∙ ap (bytes_back (native_step.memory_after (written room first_address) room f.came)) (called.answered ∙ f.replied) ∙ back_is room f.came f.bounded in
    stored ∙ ap (with_stored old buffer) back ∙ stored_is old buffer (length room) f.came f.bounded free
    ∙ ap (λ (m : Memory). o32_step.memory_after (copied_out m buffer) m f.came) (sym same) ∙ sym f.stored

pub fills_called : (outcome : Outcome) {guest : Guest} {buffer : ℕ} {room : List ℕ} {nstep : NativeStep} {ostep : O32Step} {reply : Reply} {kernel : Kernel} {after : List ℕ} {from to : Contents} (old new : Memory)
    → guest.memory ≡ old → length room < 2 ^ 32 → ((k : ℕ) → k ≤ length room → first_denied Store old.pages buffer k ≡ None)
    → Fills guest buffer room nstep ostep → native.Called nstep reply kernel after from to → new ≡ with_stored old buffer (bytes_back after reply) → outcome ≡ outcome_of guest.words reply
    → o32.Called ostep outcome kernel new guest.processor from to
fills_called outcome {guest} {buffer} {room} {nstep} {ostep} {reply} old new same short free f called stored came =
    called_alike (fills_alike f) called
    (came ∙ ap (outcome_of guest.words) (called.answered ∙ f.replied) ∙ outcome_of_bytes guest.words (length room) f.came short f.bounded ∙ sym f.outcome)
    (fills_memory old new same free f called stored) (sym f.set)

pub fills_keeps : {guest : Guest} {buffer : ℕ} {room : List ℕ} {nstep : NativeStep} {ostep : O32Step} {reply : Reply} {became : Kernel} {after : List ℕ} {from to : Contents} (old new : Memory) (kernel : Kernel) (left : List ℕ) (before kept : Kept)
    → guest.memory ≡ old → ((k : ℕ) → k ≤ length room → first_denied Store old.pages buffer k ≡ None)
    → Fills guest buffer room nstep ostep → native.Called nstep reply became after from to → new ≡ with_stored old buffer (bytes_back after reply)
    → Logged before.native kept.native (opening kernel left) (moment nstep.kernel nstep.left nstep.sent)
    → Effected before.effects kept.effects (reached guest.processor old.pages nothing) (reached guest.processor new.pages nothing)
    → Keeps ostep kernel left guest before kept
fills_keeps {guest} {buffer} {room} {nstep} {ostep} old new kernel left before kept same free f called stored logged effected =
    let there : new ≡ ostep.memory = fills_memory old new same free f called stored in
    keeps (fills_alike f) logged
    (subst (λ (m : Memory). Effected before.effects kept.effects (reached guest.processor m.pages nothing) (reached guest.processor ostep.memory.pages ostep.sent)) (sym same)
    (subst (λ (m : Memory). Effected before.effects kept.effects (reached guest.processor old.pages nothing) (reached guest.processor m.pages ostep.sent)) there
    (subst (λ (s : Sent). Effected before.effects kept.effects (reached guest.processor old.pages nothing) (reached guest.processor new.pages s)) (sym f.sends) effected)))

-- a reply that gives no byte
pub back_none : (memory : List ℕ) (count : ℤ) → count ≤ℤ pos 0 → bytes_back memory (replies.Done count) ≡ []
back_none memory (pos zero) none = refl
back_none memory (pos (suc count)) none = absurd (omega (arith, ints))
back_none memory (negsuc number) none = refl
