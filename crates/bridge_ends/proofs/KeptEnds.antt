-- What the end of a sleep has kept: what it stored.
use Rattle.std.proofs.Common.{◌≡◌, ◌∙◌, ◌⊎◌, inl, inr, ℕ, Bool, true, false, List, refl, sym, subst}
use Rattle.std.specs.Prelude.{◌==◌, ◌||◌, ◌&&◌, not, length, Option, if◌then◌else◌}
use Rattle.bridge_poll.specs.Passed.{Keeps}
use Rattle.bridge_poll.proofs.Passed.{logged_none}
use Rattle.bridge_poll.specs.Passed.{Logged, reached}
use Rattle.guest_space.specs.Memory.{Memory, Pages}
use Rattle.kernel_core.specs.declared.log_entry.LogEntry.{LogEntry}
use Rattle.kernel_model.specs.Clock.{left_until}
use Rattle.kernel_model.specs.Pipes.{Sent}
use Rattle.kernel_model.specs.State.{Kernel}
use Rattle.mips_exec.specs.Processor.{Processor}
use Rattle.native_calls.specs.History.{moment}
use Rattle.o32_calls.specs.Numbers.{time_number}
use Rattle.o32_calls.specs.declared.times.TimeCall.TheVariants.{ClockNanosleep, Nanosleep}
use Rattle.o32_model.specs.Effects.{Effected}
use Rattle.o32_model.specs.GuestBytes.{is_storable}
use Rattle.o32_model.specs.Logs.{Kept}
use Rattle.o32_model.specs.Times.{spec_bytes}
use Rattle.o32_model.specs.WaitEnds.{Sleeping, WaitEnd, interrupted, interrupted_storing, sleep_ended, sleep_interrupted, wait_ended, wait_word}
use Rattle.o32_model.specs.declared.wait.Cause.{Cause}
use Rattle.o32_model.specs.declared.wait.Cause.TheVariants.{Due, Accepted, Handler, Stopped}
use Rattle.o32_model.specs.declared.wait.Wait.{Wait}

-- A sleep makes no native call, and its end leaves the kernel.

leaves_if : (kernel : Kernel) (stored : Bool) (one other : WaitEnd) → one.kernel ≡ kernel → other.kernel ≡ kernel → (if stored then one else other).kernel ≡ kernel
leaves_if kernel true one other first second = first
leaves_if kernel false one other first second = second

storing_leaves : (address : ℕ) (bytes : List ℕ) (kernel : Kernel) (memory : Memory) → (interrupted_storing address bytes kernel memory).kernel ≡ kernel
storing_leaves address bytes kernel memory = leaves_if kernel (is_storable memory address (length bytes)) _ _ refl refl

interrupted_leaves : (sleeping : Sleeping) (wait : Wait) (clock : ℕ) (kernel : Kernel) (memory : Memory) → (sleep_interrupted sleeping wait clock kernel memory).kernel ≡ kernel
interrupted_leaves sleeping wait clock kernel memory =
    let bytes = spec_bytes (left_until clock wait.deadline) in
    leaves_if kernel (sleeping.relative && not (sleeping.address == 0)) (interrupted_storing sleeping.address bytes kernel memory) (interrupted kernel memory)
    (storing_leaves sleeping.address bytes kernel memory) refl

sleep_leaves : (sleeping : Sleeping) (wait : Wait) (cause : Cause) (clock : ℕ) (kernel : Kernel) (memory : Memory) → (sleep_ended sleeping wait cause clock kernel memory).kernel ≡ kernel
sleep_leaves sleeping wait Due clock kernel memory = refl
sleep_leaves sleeping wait Accepted clock kernel memory = refl
sleep_leaves sleeping wait Handler clock kernel memory = interrupted_leaves sleeping wait clock kernel memory
sleep_leaves sleeping wait Stopped clock kernel memory = refl

which : (first second : Bool) → (first || second) ≡ true → (first ≡ true) ⊎ ((first ≡ false) × (second ≡ true))
which true second some = inl refl
which false true some = inr (refl, refl)
which false false some = absurd cc

leaves : (wait : Wait) (cause : Cause) (clock : ℕ) (kernel : Kernel) (memory : Memory) → ((wait.nr == time_number Nanosleep) || (wait.nr == time_number ClockNanosleep)) ≡ true → (wait_ended wait cause clock kernel memory).kernel ≡ kernel
leaves wait cause clock kernel memory sleeps =
    elim (which (wait.nr == time_number Nanosleep) (wait.nr == time_number ClockNanosleep) sleeps) [
      | inl first ↦ simp first (sleep_leaves (record { relative = true; address = wait_word wait 1 }) wait cause clock kernel memory)
      | inr second ↦
          let other = second.0 in
          let this = second.1 in
          simp (other, this) (sleep_leaves (record { relative = wait_word wait 1 == 0; address = wait_word wait 3 }) wait cause clock kernel memory)
    ]

pub sleep_keeps : (wait : Wait) (cause : Cause) (clock : ℕ) (kernel became : Kernel) (memory : Memory) (after : Pages) (left : List ℕ) (old new : Kept) → ((wait.nr == time_number Nanosleep) || (wait.nr == time_number ClockNanosleep)) ≡ true
    → became ≡ (wait_ended wait cause clock kernel memory).kernel → new.native ≡ old.native
    → ((processor : Processor) (sent : Sent) → Effected old.effects new.effects (reached processor memory.pages sent) (reached processor after sent))
    → Keeps kernel became memory.pages after left old new
sleep_keeps wait cause clock kernel became memory after left old new sleeps stays unkept effects =
    let same : kernel ≡ became = sym (stays ∙ leaves wait cause clock kernel memory sleeps) in
    record {
      native = λ sent.
          subst (λ (k : Kernel). Logged old.native new.native (moment kernel left sent) (moment k left sent)) same
          (subst (λ (e : Option (List LogEntry)). Logged old.native e (moment kernel left sent) (moment kernel left sent)) (sym unkept)
          (logged_none old.native (moment kernel left sent)));
      effects = effects;
    }
