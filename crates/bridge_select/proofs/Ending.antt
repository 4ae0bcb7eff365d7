-- How a wait ends: as it closes, with the mask put back and the time that is left stored.
use Rattle.std.proofs.Common.{◌≡◌, ℕ, Bool, true, false, List, Option, Result, Ok, Err, IfOk, OnOk, refl, sym, subst, ◌∙◌}
use Rattle.std.specs.Prelude.{◌==◌, if◌then◌else◌}
use Rattle.guest_space.specs.Memory.{Memory, Pages}
use Rattle.kernel_core.specs.declared.core_error.NoMemory.{NoMemory}
use Rattle.kernel_core.specs.declared.core_error.Stop.{Stop}
use Rattle.kernel_core.specs.declared.log_entry.LogEntry.{LogEntry}
use Rattle.kernel_model.specs.Pipes.{Sent}
use Rattle.kernel_model.specs.State.{Kernel}
use Rattle.mips_exec.specs.Processor.{Processor}
use Rattle.native_calls.specs.History.{moment}
use Rattle.o32_calls.specs.Numbers.{select_number}
use Rattle.o32_calls.specs.declared.times.SelectCall.TheVariants.{Newselect}
use Rattle.o32_model.specs.Effects.{Effected}
use Rattle.o32_model.specs.Logs.{Kept}
use Rattle.o32_model.specs.TimeLeft.{LeftForm}
use Rattle.o32_model.specs.Times.{spec_bytes, val_bytes}
use Rattle.o32_model.specs.WaitEnds.{WaitEnd, ends_with, limited_ended, sets_told, told, wait_word, with_left}
use Rattle.o32_model.specs.declared.wait.Cause.{Cause}
use Rattle.o32_model.specs.declared.wait.Cause.TheVariants.{Due, Accepted, Handler, Stopped}
use Rattle.o32_model.specs.declared.wait.Close.{Close}
use Rattle.o32_model.specs.declared.wait.Wait.{Wait}
use Rattle.bridge_limits.specs.Ends.{Keeps}
use Rattle.bridge_limits.specs.Limits.{unmasked_kernel}
use Rattle.bridge_limits.proofs.Passed.{effected_then}
use Rattle.bridge_limits.specs.Passed.{Logged, reached}
use Rattle.bridge_select.specs.Ends.{select_ended}
use Rattle.bridge_select.specs.inside.Ending.{closing, time_form}

limited_is : (form : LeftForm) (wait : Wait) (cause : Cause) (clock : ℕ) (kernel : Kernel) (memory : Memory)
    → limited_ended form (sets_told wait) wait cause clock kernel memory ≡ with_left form wait clock memory (closing form wait cause clock kernel memory)
limited_is form wait Due clock kernel memory = refl
limited_is form wait Accepted clock kernel memory = refl
limited_is form wait Handler clock kernel memory = refl
limited_is form wait Stopped clock kernel memory = refl

abbrev form_if : Wait → Bool → LeftForm
form_if wait micro = record { address = wait_word wait 4; bytes = if micro then val_bytes else spec_bytes }

pub select_ended_is : (wait : Wait) (cause : Cause) (clock : ℕ) (kernel : Kernel) (memory : Memory)
    → select_ended wait cause clock kernel memory ≡ with_left (time_form wait) wait clock memory (closing (time_form wait) wait cause clock kernel memory)
select_ended_is wait cause clock kernel memory = by (wait.nr == select_number Newselect) where
  by : (micro : Bool)
      → (if micro then limited_ended (record { address = wait_word wait 4; bytes = val_bytes }) (sets_told wait) wait cause clock kernel memory
      else limited_ended (record { address = wait_word wait 4; bytes = spec_bytes }) (sets_told wait) wait cause clock kernel memory)
      ≡ with_left (form_if wait micro) wait clock memory (closing (form_if wait micro) wait cause clock kernel memory)
  by true = limited_is (form_if wait true) wait cause clock kernel memory
  by false = limited_is (form_if wait false) wait cause clock kernel memory

pub if_ended : (result : Result Close Stop) (one other : WaitEnd) (kernel : Kernel) (memory : Memory) → one ≡ other
    → IfOk result (λ close. other ≡ ends_with close kernel memory) → IfOk result (λ close. one ≡ ends_with close kernel memory)
if_ended (Ok close) one other kernel memory same is = same ∙ is
if_ended (Err stop) one other kernel memory same is = tt

-- A wait whose time is over

abbrev pub Closed : (Kernel → WaitEnd) → (Kernel → Kernel) → Memory → Close → Type 0
Closed end became memory close = (kernel : Kernel) → end kernel ≡ ends_with close (became kernel) memory

over : (form : LeftForm) (wait : Wait) (cause : Cause) (clock : ℕ) (memory after : Memory) (close : Close)
    → ((kernel : Kernel) → closing form wait cause clock kernel memory ≡ told (sets_told wait) (unmasked_kernel wait cause kernel) memory)
    → Closed (λ kernel. told (sets_told wait) kernel memory) (λ kernel. kernel) after close
    → Closed (λ kernel. closing form wait cause clock kernel memory) (unmasked_kernel wait cause) after close
over form wait cause clock memory after close is closed = λ kernel. is kernel ∙ closed (unmasked_kernel wait cause kernel)

due_or_accepted : (form : LeftForm) (wait : Wait) (cause other : Cause) (clock : ℕ) (memory : Memory) → cause ≡ other
    → ((kernel : Kernel) → closing form wait other clock kernel memory ≡ told (sets_told wait) (unmasked_kernel wait other kernel) memory)
    → (kernel : Kernel) → closing form wait cause clock kernel memory ≡ told (sets_told wait) (unmasked_kernel wait cause kernel) memory
due_or_accepted form wait cause other clock memory same is = λ kernel.
    subst (λ (c : Cause). closing form wait c clock kernel memory ≡ told (sets_told wait) (unmasked_kernel wait c kernel) memory) (sym same) (is kernel)

if_over : (result : Result Close NoMemory) (form : LeftForm) (wait : Wait) (cause : Cause) (clock : ℕ) (memory after : Memory)
    → ((kernel : Kernel) → closing form wait cause clock kernel memory ≡ told (sets_told wait) (unmasked_kernel wait cause kernel) memory)
    → IfOk result (Closed (λ kernel. told (sets_told wait) kernel memory) (λ kernel. kernel) after)
    → IfOk result (Closed (λ kernel. closing form wait cause clock kernel memory) (unmasked_kernel wait cause) after)
if_over (Ok close) form wait cause clock memory after is closed = over form wait cause clock memory after close is closed
if_over (Err error) form wait cause clock memory after is closed = tt

pub due_closed : (result : Result Close NoMemory) (form : LeftForm) (wait : Wait) (cause : Cause) (clock : ℕ) (memory after : Memory) → cause ≡ Due
    → IfOk result (Closed (λ kernel. told (sets_told wait) kernel memory) (λ kernel. kernel) after)
    → IfOk result (Closed (λ kernel. closing form wait cause clock kernel memory) (unmasked_kernel wait cause) after)
due_closed result form wait cause clock memory after is closed =
    if_over result form wait cause clock memory after (due_or_accepted form wait cause Due clock memory is (λ kernel. refl)) closed

pub accepted_closed : (result : Result Close NoMemory) (form : LeftForm) (wait : Wait) (cause : Cause) (clock : ℕ) (memory after : Memory) → cause ≡ Accepted
    → IfOk result (Closed (λ kernel. told (sets_told wait) kernel memory) (λ kernel. kernel) after)
    → IfOk result (Closed (λ kernel. closing form wait cause clock kernel memory) (unmasked_kernel wait cause) after)
accepted_closed result form wait cause clock memory after is closed =
    if_over result form wait cause clock memory after (due_or_accepted form wait cause Accepted clock memory is (λ kernel. refl)) closed

-- What is kept of what was stored before, and of the end behind it

pub keeps_behind : (result : Result Close Stop) (kernel became : Kernel) (before between after : Pages) (left : List ℕ) (old middle new : Kept) → middle.native ≡ old.native
    → ((processor : Processor) (sent : Sent) → Effected old.effects middle.effects (reached processor before sent) (reached processor between sent))
    → OnOk result (Keeps kernel became between after left middle new) → OnOk result (Keeps kernel became before after left old new)
keeps_behind (Ok close) kernel became before between after left old middle new native effects keeps = record {
  native = λ sent. subst (λ (n : Option (List LogEntry)). Logged n new.native (moment kernel left sent) (moment became left sent)) native (keeps.native sent);
  effects = λ processor sent. effected_then (effects processor sent) (keeps.effects processor sent);
}
keeps_behind (Err stop) kernel became before between after left old middle new native effects keeps = tt
