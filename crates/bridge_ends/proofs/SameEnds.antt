-- An end that is the same as another, and the machine behind it.
use Rattle.std.proofs.Common.{◌≡◌, ◌∙◌, ℕ, Bool, true, false, subst, sym, ap, refl}
use Rattle.std.specs.Prelude.{◌==◌, ◌||◌, Result, if◌then◌else◌}
use Rattle.bridge_poll.specs.Passed.{Closes}
use Rattle.bridge_ends.specs.inside.Endings.{old_mask, suspension_end}
use Rattle.bridge_select.specs.Ends.{select_ended}
use Rattle.guest_space.specs.Memory.{Memory}
use Rattle.kernel_core.specs.declared.core_error.Stop.{Stop}
use Rattle.kernel_model.specs.State.{Kernel}
use Rattle.o32_calls.specs.Numbers.{poll_number, rt_sigtimedwait_number, time_number}
use Rattle.o32_calls.specs.declared.times.PollCall.TheVariants.{Poll, Ppoll}
use Rattle.o32_calls.specs.declared.times.TimeCall.TheVariants.{ClockNanosleep, Nanosleep}
use Rattle.o32_model.specs.SignalWaitEnds.{acceptance_ended, signal_wait_ended, suspension_ended, transfer_ended}
use Rattle.o32_model.specs.WaitEnds.{WaitEnd, ends_with, wait_ended, with_old_mask}
use Rattle.o32_model.specs.declared.wait.Cause.{Cause}
use Rattle.o32_model.specs.declared.wait.Cause.TheVariants.{Due, Accepted, Handler, Stopped}
use Rattle.o32_model.specs.declared.wait.Close.{Close}
use Rattle.o32_model.specs.declared.wait.Wait.{Wait}
use Rattle.o32_turns.specs.Closing.{is_one_of, signal_waits, transfer_waits, whole_end}
use Rattle.outside.specs.Streams.{Contents}

pub closes_as : (end other : WaitEnd) (result : Result Close Stop) (kernel : Kernel) (memory : Memory) (before after : Contents) → other ≡ end
    → Closes end result kernel memory before after → Closes other result kernel memory before after
closes_as end other result kernel memory before after same closes =
    subst (λ (e : WaitEnd). Closes e result kernel memory before after) (sym same) closes

pub suspended : (wait : Wait) (cause : Cause) (kernel : Kernel) (memory : Memory)
    → suspension_ended wait cause kernel memory ≡ ends_with (suspension_end cause) (with_old_mask (old_mask wait cause) kernel) memory
suspended wait Due kernel memory = refl
suspended wait Accepted kernel memory = refl
suspended wait Handler kernel memory = refl
suspended wait Stopped kernel memory = refl

-- an end of a wait for signals, and one of a sleep or of a wait for descriptors

pub by_signals : (restarts : Bool) (wait : Wait) (cause : Cause) (kernel : Kernel) (memory : Memory) → is_one_of transfer_waits wait ≡ false
    → is_one_of signal_waits wait ≡ true → whole_end restarts wait cause kernel memory ≡ signal_wait_ended wait cause kernel memory
by_signals restarts wait cause kernel memory no_transfer signals =
    let signalled = signal_wait_ended wait cause kernel memory in
    let timed = wait_ended wait cause kernel.clock kernel memory in
    let moved = ends_with (transfer_ended restarts wait cause) kernel memory in
    ap (λ (b : Bool). if b then moved else (if is_one_of signal_waits wait then signalled else timed)) no_transfer
    ∙ ap (λ (b : Bool). if b then signalled else timed) signals

pub by_time : (restarts : Bool) (wait : Wait) (cause : Cause) (kernel : Kernel) (memory : Memory) (clock : ℕ) → kernel.clock ≡ clock
    → is_one_of transfer_waits wait ≡ false → is_one_of signal_waits wait ≡ false
    → whole_end restarts wait cause kernel memory ≡ wait_ended wait cause clock kernel memory
by_time restarts wait cause kernel memory clock now no_transfer no_signals =
    let signalled = signal_wait_ended wait cause kernel memory in
    let timed = wait_ended wait cause kernel.clock kernel memory in
    let moved = ends_with (transfer_ended restarts wait cause) kernel memory in
    ap (λ (b : Bool). if b then moved else (if is_one_of signal_waits wait then signalled else timed)) no_transfer
    ∙ ap (λ (b : Bool). if b then signalled else timed) no_signals
    ∙ ap (λ (n : ℕ). wait_ended wait cause n kernel memory) now

neither : (one other : Bool) → (one || other) ≡ false → (one ≡ false) × (other ≡ false)
neither true other none = absurd cc
neither false other none = (refl, none)

-- neither a sleep nor poll(2) or ppoll(2)
pub by_select : (wait : Wait) (cause : Cause) (clock : ℕ) (kernel : Kernel) (memory : Memory) → ((wait.nr == time_number Nanosleep) || (wait.nr == time_number ClockNanosleep)) ≡ false
    → ((wait.nr == poll_number Poll) || (wait.nr == poll_number Ppoll)) ≡ false → wait_ended wait cause clock kernel memory ≡ select_ended wait cause clock kernel memory
by_select wait cause clock kernel memory no_sleep no_poll =
    let sleeps = neither (wait.nr == time_number Nanosleep) (wait.nr == time_number ClockNanosleep) no_sleep in
    let polls = neither (wait.nr == poll_number Poll) (wait.nr == poll_number Ppoll) no_poll in
    rw (sleeps.0, sleeps.1, polls.0, polls.1) refl

-- one of rt_sigtimedwait(2), and another

pub by_acceptance : (wait : Wait) (cause : Cause) (kernel : Kernel) (memory : Memory) → (wait.nr == rt_sigtimedwait_number) ≡ true
    → signal_wait_ended wait cause kernel memory ≡ acceptance_ended wait cause kernel memory
by_acceptance wait cause kernel memory is =
    ap (λ (b : Bool). if b then acceptance_ended wait cause kernel memory else suspension_ended wait cause kernel memory) is

pub by_suspension : (wait : Wait) (cause : Cause) (kernel : Kernel) (memory : Memory) → (wait.nr == rt_sigtimedwait_number) ≡ false
    → signal_wait_ended wait cause kernel memory ≡ suspension_ended wait cause kernel memory
by_suspension wait cause kernel memory is =
    ap (λ (b : Bool). if b then acceptance_ended wait cause kernel memory else suspension_ended wait cause kernel memory) is
