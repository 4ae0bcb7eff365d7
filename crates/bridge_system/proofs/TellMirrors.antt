-- What is said of a native call that gives names or a limit, said of the o32 call that it tells for.
use Rattle.std.proofs.Common.{◌≡◌, ℕ, List, length, drop, ◌++◌, refl, sym, ap, subst, ◌∙◌, zero-add, append-nil, arith}
use Rattle.std.proofs.lemmas.Bool.Decides.{nat_tests}
use Rattle.std.proofs.lemmas.List.{drop_all}
use Rattle.std.specs.Prelude.{Bool, true, if◌then◌else◌}
use Rattle.guest_space.specs.Memory.{Memory}
use Rattle.host_mem.specs.Memory.{first_address, is_inside, replaced, written}
use Rattle.kernel_core.specs.declared.error.Errno.{Errno}
use Rattle.kernel_core.specs.declared.error.Errno.TheVariants.{EPERM, EFAULT}
use Rattle.kernel_core.specs.declared.reply.Reply.{Reply}
use Rattle.kernel_model.specs.Came.{Came, Done, Refused, Waits, told_as}
use Rattle.kernel_model.specs.Pipes.{Sent, nothing}
use Rattle.kernel_model.specs.State.{Kernel}
use Rattle.native_calls.specs.Answered as native
use Rattle.native_calls.specs.History.{moment, opening}
use Rattle.native_calls.specs.Step as native_step
use Rattle.native_calls.specs.Step.{NativeStep}
use Rattle.o32_model.specs.Answered as o32
use Rattle.o32_model.specs.Effects.{Effected}
use Rattle.o32_model.specs.GuestBytes.{with_stored}
use Rattle.o32_model.specs.Logs.{Kept}
use Rattle.o32_model.specs.Step as o32_step
use Rattle.o32_model.specs.Step.{Guest, O32Step}
use Rattle.o32_model.specs.declared.call_words.CallWords.{CallWords}
use Rattle.o32_model.specs.declared.outcome.Outcome.{Outcome}
use Rattle.outside.specs.Streams.{Contents}
use Rattle.bridge_io.proofs.Passed.{Alike, called_alike, keeps}
use Rattle.bridge_io.proofs.Passed.{outcome_of_wake}
use Rattle.bridge_io.specs.Passed.{Bounded}
use Rattle.bridge_io.specs.Passed.{Logged, Keeps, reached}
use Rattle.bridge_system.specs.declared.telling.Told.{Told}
use Rattle.bridge_system.specs.inside.Tells.{Tells, bytes_told, memory_told, outcome_told}

pub tells_alike : {guest : Guest} {address : ℕ} {told : Told} {nstep : NativeStep} {ostep : O32Step} → Tells guest address told nstep ostep → Alike nstep ostep
tells_alike t = record { kernel = t.kernel; left = t.left; sent = t.sends ∙ sym t.native_sends }

tells_memory : {guest : Guest} {address : ℕ} {told : Told} {nstep : NativeStep} {ostep : O32Step} {reply : Reply} {kernel : Kernel} {after : List ℕ} {from to : Contents} (old new : Memory)
    → guest.memory ≡ old → Tells guest address told nstep ostep → native.Called nstep reply kernel after from to → new ≡ memory_told old address told after reply → new ≡ ostep.memory
tells_memory {guest} {address} {told} {nstep} {ostep} {reply} {kernel} {after} old new same t called stored =
    stored
    ∙ ap (λ (m : Memory). memory_told m address told after reply) (sym same)
    ∙ ap (λ (m : List ℕ). memory_told guest.memory address told m reply) called.stored
    ∙ ap (λ (r : Reply). memory_told guest.memory address told nstep.memory r) called.answered
    ∙ sym t.stored_so

pub tells_called : (outcome : Outcome) {guest : Guest} {address : ℕ} {told : Told} {nstep : NativeStep} {ostep : O32Step} {reply : Reply} {kernel : Kernel} {after : List ℕ} {from to : Contents} (words : CallWords) (old new : Memory)
    → guest.words ≡ words → guest.memory ≡ old → Tells guest address told nstep ostep → native.Called nstep reply kernel after from to → new ≡ memory_told old address told after reply
    → outcome ≡ outcome_told words old address told after reply → o32.Called ostep outcome kernel new guest.processor from to
tells_called outcome {guest} {address} {told} {nstep} {ostep} {reply} {kernel} {after} words old new named same t called stored came =
    called_alike (tells_alike t) called
    (came
    ∙ ap (λ (w : CallWords). outcome_told w old address told after reply) (sym named)
    ∙ ap (λ (m : Memory). outcome_told guest.words m address told after reply) (sym same)
    ∙ ap (λ (m : List ℕ). outcome_told guest.words guest.memory address told m reply) called.stored
    ∙ ap (λ (r : Reply). outcome_told guest.words guest.memory address told nstep.memory r) called.answered
    ∙ sym t.came)
    (tells_memory old new same t called stored) (sym t.set)

pub tells_keeps : {guest : Guest} {address : ℕ} {told : Told} {nstep : NativeStep} {ostep : O32Step} {reply : Reply} {became : Kernel} {after : List ℕ} {from to : Contents} (old new : Memory) (kernel : Kernel) (left : List ℕ) (before kept : Kept)
    → guest.memory ≡ old → Tells guest address told nstep ostep → native.Called nstep reply became after from to → new ≡ memory_told old address told after reply
    → Logged before.native kept.native (opening kernel left) (moment nstep.kernel nstep.left nstep.sent)
    → Effected before.effects kept.effects (reached guest.processor old.pages nothing) (reached guest.processor new.pages nothing)
    → Keeps ostep kernel left guest before kept
tells_keeps {guest} {address} {told} {nstep} {ostep} old new kernel left before kept same t called stored logged effected =
    let there : new ≡ ostep.memory = tells_memory old new same t called stored in
    keeps (tells_alike t) logged
    (subst (λ (m : Memory). Effected before.effects kept.effects (reached guest.processor m.pages nothing) (reached guest.processor ostep.memory.pages ostep.sent)) (sym same)
    (subst (λ (m : Memory). Effected before.effects kept.effects (reached guest.processor old.pages nothing) (reached guest.processor m.pages ostep.sent)) there
    (subst (λ (x : Sent). Effected before.effects kept.effects (reached guest.processor old.pages nothing) (reached guest.processor new.pages x)) (sym t.sends) effected)))

-- Host memory of the size of what is given has just that.

pub whole_inside : (room bytes : List ℕ) → length bytes ≡ length room → is_inside room first_address (length bytes) ≡ true
whole_inside room bytes long = grind (arith, nat_tests)

whole_replaced : (room bytes : List ℕ) → length bytes ≡ length room → replaced room 0 bytes ≡ bytes
whole_replaced room bytes long =
    ap (λ (n : ℕ). bytes ++ drop n room) (zero-add (length bytes)) ∙ ap (λ (rest : List ℕ). bytes ++ rest) (drop_all (length bytes) room (omega arith)) ∙ append-nil bytes

pub whole_written : (room bytes : List ℕ) → length bytes ≡ length room → written room first_address bytes ≡ bytes
whole_written room bytes long =
    ap (λ (b : Bool). if b then replaced room 0 bytes else room) (whole_inside room bytes long) ∙ whole_replaced room bytes long

-- A row that gives something: its bytes in host memory, and those for the program.

told_of_failure : (memory : Memory) (address : ℕ) (told : Told) (room : List ℕ) (error : Errno) → memory_told memory address told room (native_step.failure error) ≡ memory
told_of_failure memory address told room EPERM = refl
told_of_failure memory address told room _ = refl

outcome_of_failure : (words : CallWords) (memory : Memory) (address : ℕ) (told : Told) (room : List ℕ) (error : Errno) → outcome_told words memory address told room (native_step.failure error) ≡ o32_step.failure error
outcome_of_failure words memory address told room EPERM = refl
outcome_of_failure words memory address told room _ = refl

-- what is told of a value: as many bytes as host memory has, which say the same
pub record Same (told : Told) (room nbytes obytes : List ℕ) : Type 0 where
  pub long : length nbytes ≡ length room
  pub says : bytes_told told nbytes ≡ obytes

pub row_tells : {V : Type 0} (guest : Guest) (kernel : Kernel) (address : ℕ) (told : Told) (room : List ℕ) (nbytes obytes : V → List ℕ) (left : List ℕ) (came : Came V) → Bounded (λ v. Same told room (nbytes v) (obytes v)) came
    → Tells guest address told (native_step.stores room 65536 (told_as nbytes (record { state = kernel; came = came })) left) (o32_step.stores guest address (told_as obytes (record { state = kernel; came = came })) left)
row_tells guest kernel address told room nbytes obytes left (Done v) same =
    let inside = whole_inside room (nbytes v) same.long in
    let whole : bytes_told told (written room first_address (nbytes v)) ≡ obytes v = ap (bytes_told told) (whole_written room (nbytes v) same.long) ∙ same.says in
    record {
      kernel = refl;
      left = refl;
      native_sends = refl;
      sends = refl;
      stored_so =
          sym (ap (λ (b : Bool). memory_told guest.memory address told (written room first_address (nbytes v)) (if b then native_step.value 0 else native_step.failure EFAULT)) inside
          ∙ ap (with_stored guest.memory address) whole);
      set = refl;
      came =
          sym (ap (λ (b : Bool). outcome_told guest.words guest.memory address told (written room first_address (nbytes v)) (if b then native_step.value 0 else native_step.failure EFAULT)) inside
          ∙ ap (o32_step.stored guest.memory address) whole);
    }
row_tells guest kernel address told room nbytes obytes left (Refused error) same = record {
  kernel = refl;
  left = refl;
  native_sends = refl;
  sends = refl;
  stored_so = sym (told_of_failure guest.memory address told room error);
  set = refl;
  came = sym (outcome_of_failure guest.words guest.memory address told room error);
}
row_tells guest kernel address told room nbytes obytes left (Waits wake) same = record {
  kernel = refl;
  left = refl;
  native_sends = refl;
  sends = refl;
  stored_so = refl;
  set = refl;
  came = sym (outcome_of_wake guest.words wake same);
}
