-- What is said of a native call that tells a status, said of the o32 call that it tells for.
use Rattle.std.proofs.Common.{◌≡◌, ℕ, ◌+◌, ◌≤◌, List, ◌++◌, length, take, drop, Option, Some, None, refl, sym, ap, subst, ◌∙◌, arith}
use Rattle.std.proofs.lemmas.Bool.Decides.{nat_tests}
use Rattle.std.proofs.lemmas.List.{length-append, length-take, take-append-le, take_all}
use Rattle.std.specs.Prelude.{Bool, true, false, IfSome, option_map, if◌then◌else◌}
use Rattle.guest_space.specs.Memory.{Memory}
use Rattle.host_mem.specs.Memory.{bytes_at, first_address, is_inside, replaced, written}
use Rattle.kernel_core.specs.declared.error.Errno.{Errno}
use Rattle.kernel_core.specs.declared.error.Errno.TheVariants.{EPERM}
use Rattle.kernel_core.specs.declared.reply.Reply.{Reply}
use Rattle.kernel_model.specs.Pipes.{Sent, nothing}
use Rattle.kernel_model.specs.State.{Kernel}
use Rattle.native_calls.specs.Answered as native
use Rattle.native_calls.specs.History.{moment, opening}
use Rattle.native_calls.specs.Step as native_step
use Rattle.native_calls.specs.Step.{NativeStep}
use Rattle.o32_model.specs.Answered as o32
use Rattle.o32_model.specs.Effects.{Effected}
use Rattle.o32_model.specs.Logs.{Kept}
use Rattle.o32_model.specs.Step as o32_step
use Rattle.o32_model.specs.Step.{Guest, O32Step}
use Rattle.o32_model.specs.declared.call_words.CallWords.{CallWords}
use Rattle.o32_model.specs.declared.outcome.Outcome.{Outcome}
use Rattle.outside.specs.Streams.{Contents}
use Rattle.bridge_paths.proofs.Passed.{Alike, called_alike, keeps}
use Rattle.bridge_paths.specs.Passed.{Logged, Keeps, reached}
use Rattle.bridge_status.specs.declared.structures.Form.{Form}
use Rattle.bridge_status.specs.inside.Tells.{Tells, memory_told, outcome_told, status_there}

tells_alike : {guest : Guest} {address : ℕ} {form : Form} {nstep : NativeStep} {ostep : O32Step} → Tells guest address form nstep ostep → Alike nstep ostep
tells_alike t = record { kernel = t.kernel; left = t.left; sent = t.sends ∙ sym t.native_sends }

tells_memory : {guest : Guest} {address : ℕ} {form : Form} {nstep : NativeStep} {ostep : O32Step} {reply : Reply} {kernel : Kernel} {after : List ℕ} {from to : Contents} (old new : Memory)
    → guest.memory ≡ old → Tells guest address form nstep ostep → native.Called nstep reply kernel after from to → new ≡ memory_told old address form after reply → new ≡ ostep.memory
tells_memory {guest} {address} {form} {nstep} {ostep} {reply} {kernel} {after} old new same t called stored =
    stored
    ∙ ap (λ (m : Memory). memory_told m address form after reply) (sym same)
    ∙ ap (λ (m : List ℕ). memory_told guest.memory address form m reply) called.stored
    ∙ ap (λ (r : Reply). memory_told guest.memory address form nstep.memory r) called.answered
    ∙ sym t.stored_so

pub tells_called : (outcome : Outcome) {guest : Guest} {address : ℕ} {form : Form} {nstep : NativeStep} {ostep : O32Step} {reply : Reply} {kernel : Kernel} {after : List ℕ} {from to : Contents} (words : CallWords) (old new : Memory)
    → guest.words ≡ words → guest.memory ≡ old → Tells guest address form nstep ostep → native.Called nstep reply kernel after from to → new ≡ memory_told old address form after reply
    → outcome ≡ outcome_told words old address form after reply → o32.Called ostep outcome kernel new guest.processor from to
tells_called outcome {guest} {address} {form} {nstep} {ostep} {reply} {kernel} {after} words old new named same t called stored came =
    called_alike (tells_alike t) called
    (came
    ∙ ap (λ (w : CallWords). outcome_told w old address form after reply) (sym named)
    ∙ ap (λ (m : Memory). outcome_told guest.words m address form after reply) (sym same)
    ∙ ap (λ (m : List ℕ). outcome_told guest.words guest.memory address form m reply) called.stored
    ∙ ap (λ (r : Reply). outcome_told guest.words guest.memory address form nstep.memory r) called.answered
    ∙ sym t.came)
    (tells_memory old new same t called stored) (sym t.set)

pub tells_keeps : {guest : Guest} {address : ℕ} {form : Form} {nstep : NativeStep} {ostep : O32Step} {reply : Reply} {became : Kernel} {after : List ℕ} {from to : Contents} (old new : Memory) (kernel : Kernel) (left : List ℕ) (before kept : Kept)
    → guest.memory ≡ old → Tells guest address form nstep ostep → native.Called nstep reply became after from to → new ≡ memory_told old address form after reply
    → Logged before.native kept.native (opening kernel left) (moment nstep.kernel nstep.left nstep.sent)
    → Effected before.effects kept.effects (reached guest.processor old.pages nothing) (reached guest.processor new.pages nothing)
    → Keeps ostep kernel left guest before kept
tells_keeps {guest} {address} {form} {nstep} {ostep} old new kernel left before kept same t called stored logged effected =
    let there : new ≡ ostep.memory = tells_memory old new same t called stored in
    keeps (tells_alike t) logged
    (subst (λ (m : Memory). Effected before.effects kept.effects (reached guest.processor m.pages nothing) (reached guest.processor ostep.memory.pages ostep.sent)) (sym same)
    (subst (λ (m : Memory). Effected before.effects kept.effects (reached guest.processor old.pages nothing) (reached guest.processor m.pages ostep.sent)) there
    (subst (λ (x : Sent). Effected before.effects kept.effects (reached guest.processor old.pages nothing) (reached guest.processor new.pages x)) (sym t.sends) effected)))

-- After an error nothing is stored.

pub told_of_failure : (memory : Memory) (address : ℕ) (form : Form) (room : List ℕ) (error : Errno) → memory_told memory address form room (native_step.failure error) ≡ memory
told_of_failure memory address form room EPERM = refl
told_of_failure memory address form room _ = refl

pub outcome_of_failure : (words : CallWords) (memory : Memory) (address : ℕ) (form : Form) (room : List ℕ) (error : Errno) → outcome_told words memory address form room (native_step.failure error) ≡ o32_step.failure error
outcome_of_failure words memory address form room EPERM = refl
outcome_of_failure words memory address form room _ = refl

-- What was written at the first address is there.

pub first_inside : (memory bytes : List ℕ) → length bytes ≤ length memory → is_inside memory first_address (length bytes) ≡ true
first_inside memory bytes within = grind (arith, nat_tests)

inside_more : (bytes rest : List ℕ) (size : ℕ) → length bytes ≡ size → is_inside (bytes ++ rest) first_address size ≡ true
inside_more bytes rest size long =
    let whole : length (bytes ++ rest) ≡ length bytes + length rest = length-append bytes rest in
    grind (arith, nat_tests)

first_bytes : (bytes rest : List ℕ) (size : ℕ) → length bytes ≡ size → take size (bytes ++ rest) ≡ bytes
first_bytes bytes rest size long = take-append-le size bytes rest (omega arith) ∙ take_all size bytes (omega arith)

pub written_there : (memory bytes : List ℕ) (size : ℕ) → length bytes ≡ size → length bytes ≤ length memory → bytes_at (written memory first_address bytes) first_address size ≡ Some bytes
written_there memory bytes size long within =
    let rest : List ℕ = drop (0 + length bytes) memory in
    ap (λ (b : Bool). bytes_at (if b then replaced memory 0 bytes else memory) first_address size) (first_inside memory bytes within)
    ∙ ap (λ (b : Bool). if b then Some (take size (drop 0 (bytes ++ rest))) else None) (inside_more bytes rest size long)
    ∙ ap Some (first_bytes bytes rest size long)

-- a part of so many bytes has that length

part_long : (memory : List ℕ) (inside : Bool) → is_inside memory first_address 128 ≡ inside → IfSome (if inside then Some (take 128 (drop 0 memory)) else None) (λ bytes. length bytes ≡ 128)
part_long memory true is =
    let there : 128 ≤ length memory = grind (arith, nat_tests) in
    length-take 128 (drop 0 memory) ∙ omega arith
part_long memory false is = tt

long_of : {B : Type 0} (bytes : B → List ℕ) (found : Option B) (there : Option (List ℕ)) → option_map bytes found ≡ there → IfSome there (λ b. length b ≡ 128) → IfSome found (λ b. length (bytes b) ≡ 128)
long_of bytes None there same long = tt
long_of bytes (Some b) there same long = subst (λ (o : Option (List ℕ)). IfSome o (λ (b : List ℕ). length b ≡ 128)) (sym same) long

pub status_long : {B : Type 0} (memory : List ℕ) (bytes : B → List ℕ) (found : Option B) → option_map bytes found ≡ status_there memory → IfSome found (λ b. length (bytes b) ≡ 128)
unfolding status_there
status_long memory bytes found same = long_of bytes found (status_there memory) same (part_long memory (is_inside memory first_address 128) refl)
