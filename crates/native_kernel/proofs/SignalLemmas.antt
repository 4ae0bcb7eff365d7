-- Calls on signals and timers, by what their rows come to.
use Rattle.std.proofs.Common.{◌≡◌, ◌==◌, ℕ, ℤ, List, true, Option, Some, None, Ok, Err, ap, ◌∙◌}
use Rattle.std.specs.Prelude.{not}
use Rattle.host_mem.specs.Memory.{written}
use Rattle.kernel_core.specs.declared.error.Errno.{Errno}
use Rattle.kernel_core.specs.declared.error.Errno.TheVariants.{EINVAL, ESRCH}
use Rattle.kernel_core.specs.declared.reply.Reply.{Reply}
use Rattle.kernel_core.specs.declared.signal.Sig.{Sig}
use Rattle.kernel_model.specs.Came.{Done, Did, Given, came_as, done, refused, refused_if, told_as, with_given}
use Rattle.kernel_model.specs.Clock.{read_timer, timer_value}
use Rattle.kernel_model.specs.SignalRows.{Named, Nothing, Signal, Unlisted, SentInfo, is_id, own_id, queue, queued_info, send_named}
use Rattle.kernel_model.specs.State.{Kernel}
use Rattle.native_calls.specs.Step.{memory_after, reply_to, stored, stored_unless_null}
use Rattle.native_kernel.specs.inside.Quiet.{Stores}
use Rattle.native_kernel.specs.inside.Signals.{StoresUnlessNull, listed, named}

-- what the row tells is stored by its bytes
pub told_unless_null_done : {V : Type 0} → (meaning : V → List ℕ) (did : Did Kernel V) (value : V) (address : ℕ) (reply : Reply) (kernel : Kernel) (memory new bytes : List ℕ)
    → Done value ≡ did.came → kernel ≡ did.state → bytes ≡ meaning value
    → reply ≡ stored_unless_null memory address bytes → new ≡ written memory address bytes
    → StoresUnlessNull (told_as meaning did) address reply kernel memory new
told_unless_null_done meaning did value address reply kernel memory new bytes came state told answered put =
    let stands = ap (λ c. came_as meaning c) came in
    record {
      answered = answered ∙ ap (stored_unless_null memory address) told ∙ ap (λ c. reply_to (stored_unless_null memory address) c) stands;
      became = state;
      put = put ∙ ap (written memory address) told ∙ ap (λ c. memory_after (written memory address) memory c) stands;
    }

-- the same of a call whose address may not be null
pub told_done : {V : Type 0} → (meaning : V → List ℕ) (did : Did Kernel V) (value : V) (address : ℕ) (reply : Reply) (kernel : Kernel) (memory new bytes : List ℕ)
    → Done value ≡ did.came → kernel ≡ did.state → bytes ≡ meaning value
    → reply ≡ stored memory address bytes → new ≡ written memory address bytes
    → Stores (told_as meaning did) address reply kernel memory new
told_done meaning did value address reply kernel memory new bytes came state told answered put =
    let stands = ap (λ c. came_as meaning c) came in
    record {
      answered = answered ∙ ap (stored memory address) told ∙ ap (λ c. reply_to (stored memory address) c) stands;
      became = state;
      put = put ∙ ap (written memory address) told ∙ ap (λ c. memory_after (written memory address) memory c) stands;
    }

-- the timer of real time
pub timer_read : (kernel : Kernel) (which : ℕ) → which ≡ 0 → read_timer kernel which ≡ done kernel (timer_value kernel)
unfolding read_timer
timer_read kernel which e = ap (λ n. refused_if (not (n == 0)) EINVAL kernel (done kernel (timer_value kernel))) e

-- a signal that is queued with what a structure says of it

pub queue_refused : (kernel : Kernel) (pid : ℤ) (signal : Named) (sent : Given SentInfo) (error : Errno) → is_id pid own_id ≡ true → Err error ≡ listed signal
    → queue kernel pid signal sent ≡ refused kernel error
unfolding queue
queue_refused kernel pid Nothing sent error own e = cc
queue_refused kernel pid (Signal signal) sent error own e = cc
queue_refused kernel pid Unlisted sent error own e =
    let same : EINVAL ≡ error = cc in
    ap (λ b. refused_if (not b) ESRCH kernel (refused kernel EINVAL)) own ∙ ap (λ e. refused kernel e) same

pub queue_goes_on : (kernel : Kernel) (pid : ℤ) (signal : Named) (sent : Given SentInfo) (found : Option Sig) → is_id pid own_id ≡ true → Ok found ≡ listed signal
    → queue kernel pid signal sent ≡ with_given kernel sent (λ sent. send_named kernel (named found) (queued_info sent))
unfolding queue
queue_goes_on kernel pid Nothing sent found own e =
    let same : None ≡ found = cc in
    ap (λ b. refused_if (not b) ESRCH kernel (with_given kernel sent (λ sent. send_named kernel Nothing (queued_info sent)))) own
    ∙ ap (λ f. with_given kernel sent (λ sent. send_named kernel (named f) (queued_info sent))) same
queue_goes_on kernel pid (Signal signal) sent found own e =
    let same : Some signal ≡ found = cc in
    ap (λ b. refused_if (not b) ESRCH kernel (with_given kernel sent (λ sent. send_named kernel (Signal signal) (queued_info sent)))) own
    ∙ ap (λ f. with_given kernel sent (λ sent. send_named kernel (named f) (queued_info sent))) same
queue_goes_on kernel pid Unlisted sent found own e = cc
