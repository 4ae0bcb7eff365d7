-- How waits for entries end.
use Rattle.std.proofs.Common.{◌≡◌, ℕ, Bool, true, List, [], Option, Result, Ok, Err, refl, sym, ap, subst, ◌∙◌}
use Rattle.std.specs.Prelude.{◌==◌, OnOk, if◌then◌else◌}
use Rattle.guest_space.specs.Memory.{Memory, Pages}
use Rattle.kernel_core.specs.declared.core_error.Stop.{Stop}
use Rattle.kernel_core.specs.declared.log_entry.LogEntry.{LogEntry}
use Rattle.kernel_model.specs.Pipes.{Sent}
use Rattle.kernel_model.specs.Shared.{PollSet}
use Rattle.kernel_model.specs.State.{Kernel}
use Rattle.mips_exec.specs.Processor.{Processor}
use Rattle.native_calls.specs.History.{moment}
use Rattle.o32_model.specs.Effects.{Effected}
use Rattle.o32_model.specs.Logs.{Kept}
use Rattle.o32_model.specs.Polling.{entry_pieces}
use Rattle.o32_model.specs.Results.{Piece, all_fit, with_pieces}
use Rattle.o32_model.specs.TimeLeft.{LeftForm}
use Rattle.o32_model.specs.Times.{spec_bytes, val_bytes}
use Rattle.o32_model.specs.WaitEnds.{WaitEnd, again_or_interrupted, ends_with, entries_told, limited_ended, poll_ended, sets_told, sleep_ended, told, wait_ended, wait_word, with_left}
use Rattle.o32_model.specs.declared.wait.Cause.{Cause}
use Rattle.o32_model.specs.declared.wait.Cause.TheVariants.{Due, Accepted, Handler, Stopped}
use Rattle.o32_model.specs.declared.wait.Close.{Close}
use Rattle.o32_model.specs.declared.wait.Close.TheVariants as closes
use Rattle.o32_model.specs.declared.wait.Wait.{Wait}
use Rattle.bridge_limits.specs.Ends.{Keeps}
use Rattle.bridge_limits.proofs.Storing.{alike_is, alike_pieces, alike_same, alike_then}
use Rattle.bridge_limits.specs.Limits.{StoresAlike, unmasked_kernel}
use Rattle.bridge_limits.proofs.Passed.{effected_then}
use Rattle.bridge_limits.specs.Passed.{Logged, reached}
use Rattle.bridge_poll.proofs.Told.{nothing_told}
use Rattle.bridge_poll.specs.declared.entries.Entries.{Entries}
use Rattle.bridge_poll.specs.inside.Ending.{ended_so, told_if}
use Rattle.bridge_poll.specs.inside.Telling.{pieces_told}

-- Where the time is over

abbrev waited_for : Wait → Entries
waited_for wait = record { address = wait_word wait 0; count = wait_word wait 1 }

pub told_nothing : (wait : Wait) (memory after : Memory) (kernel : Kernel) (none : List ℕ) (stored : Bool) → none ≡ []
    → stored ≡ all_fit memory (pieces_told memory (waited_for wait) none) → after ≡ with_pieces memory (pieces_told memory (waited_for wait) none)
    → told (entries_told wait memory) kernel memory ≡ ends_with (told_if stored) kernel after
told_nothing wait memory after kernel none stored empty all put =
    let same : entries_told wait memory ≡ pieces_told memory (waited_for wait) none =
    sym (ap (pieces_told memory (waited_for wait)) empty ∙ ap (λ (events : List PollSet). entry_pieces memory (wait_word wait 0) events) (nothing_told (wait_word wait 1))) in
    ap (λ (pieces : List Piece). told pieces kernel memory) same
    ∙ (λ i. ends_with (told_if (sym all i)) kernel (sym put i))

-- By the number of the call

abbrev ended_at : ℕ → Wait → Cause → ℕ → Kernel → Memory → WaitEnd
ended_at number wait cause clock kernel memory =
    if number == 4166 then sleep_ended (record { relative = true; address = wait_word wait 1 }) wait cause clock kernel memory
    else (if number == 4265
    then sleep_ended (record { relative = wait_word wait 1 == 0; address = wait_word wait 3 }) wait cause clock kernel memory
    else (if number == 4188 then poll_ended wait cause kernel memory
    else (if number == 4302
    then limited_ended (record { address = wait_word wait 2; bytes = spec_bytes }) (entries_told wait memory) wait cause clock kernel memory
    else (if number == 4142
    then limited_ended (record { address = wait_word wait 4; bytes = val_bytes }) (sets_told wait) wait cause clock kernel memory
    else limited_ended (record { address = wait_word wait 4; bytes = spec_bytes }) (sets_told wait) wait cause clock kernel memory))))

poll_so : (wait : Wait) (cause : Cause) (kernel : Kernel) (memory : Memory) → poll_ended wait cause kernel memory ≡ ended_so wait cause closes.Restart kernel memory
poll_so wait Due kernel memory = refl
poll_so wait Accepted kernel memory = refl
poll_so wait Handler kernel memory = refl
poll_so wait Stopped kernel memory = refl

pub ended_poll : (wait : Wait) (cause : Cause) (clock : ℕ) (kernel : Kernel) (memory : Memory) → wait.nr ≡ 4188 → wait_ended wait cause clock kernel memory ≡ ended_so wait cause closes.Restart kernel memory
ended_poll wait cause clock kernel memory number = ap (λ (n : ℕ). ended_at n wait cause clock kernel memory) number ∙ poll_so wait cause kernel memory

pub ended_ppoll : (wait : Wait) (cause : Cause) (clock : ℕ) (kernel : Kernel) (memory : Memory) → wait.nr ≡ 4302
    → wait_ended wait cause clock kernel memory ≡ limited_ended (record { address = wait_word wait 2; bytes = spec_bytes }) (entries_told wait memory) wait cause clock kernel memory
ended_ppoll wait cause clock kernel memory number = ap (λ (n : ℕ). ended_at n wait cause clock kernel memory) number

-- With a time and a mask

limited_so : (form : LeftForm) (wait : Wait) (cause : Cause) (clock : ℕ) (kernel : Kernel) (memory : Memory)
    → limited_ended form (entries_told wait memory) wait cause clock kernel memory
    ≡ with_left form wait clock memory (ended_so wait cause (again_or_interrupted form wait clock memory) (unmasked_kernel wait cause kernel) memory)
limited_so form wait Due clock kernel memory = refl
limited_so form wait Accepted clock kernel memory = refl
limited_so form wait Handler clock kernel memory = refl
limited_so form wait Stopped clock kernel memory = refl

pub limited_is : (form : LeftForm) (wait : Wait) (cause : Cause) (clock : ℕ) (kernel : Kernel) (memory after : Memory) (stopped close : Close) → stopped ≡ again_or_interrupted form wait clock memory
    → ((kernel : Kernel) → ended_so wait cause stopped kernel memory ≡ ends_with close kernel after)
    → limited_ended form (entries_told wait memory) wait cause clock kernel memory ≡ with_left form wait clock memory (ends_with close (unmasked_kernel wait cause kernel) after)
limited_is form wait cause clock kernel memory after stopped close again ends =
    limited_so form wait cause clock kernel memory
    ∙ ap (with_left form wait clock memory)
    (ap (λ (c : Close). ended_so wait cause c (unmasked_kernel wait cause kernel) memory) (sym again) ∙ ends (unmasked_kernel wait cause kernel))

-- what is told changes nothing about what can be stored
ended_alike : (wait : Wait) (cause : Cause) (stopped : Close) (kernel : Kernel) (memory : Memory) → StoresAlike memory (ended_so wait cause stopped kernel memory).memory
ended_alike wait Due stopped kernel memory = alike_pieces memory (entries_told wait memory)
ended_alike wait Accepted stopped kernel memory = alike_pieces memory (entries_told wait memory)
ended_alike wait Handler stopped kernel memory = alike_same memory
ended_alike wait Stopped stopped kernel memory = alike_same memory

pub left_alike : (wait : Wait) (cause : Cause) (stopped close : Close) (kernel : Kernel) (memory after : Memory) → ended_so wait cause stopped kernel memory ≡ ends_with close kernel after → StoresAlike memory after
left_alike wait cause stopped close kernel memory after ends =
    alike_then memory (ended_so wait cause stopped kernel memory).memory after (ended_alike wait cause stopped kernel memory)
    (alike_is (ended_so wait cause stopped kernel memory).memory after (ap (λ (e : WaitEnd). e.memory) ends))

-- What is kept of an end that begins with what is told

keeps_told : {kernel became : Kernel} {before between after : Pages} {left : List ℕ} {old kept new : Kept} → kept.native ≡ old.native
    → ((processor : Processor) (sent : Sent) → Effected old.effects kept.effects (reached processor before sent) (reached processor between sent))
    → Keeps kernel became between after left kept new → Keeps kernel became before after left old new
keeps_told {kernel} {became} {left = left} {new = new} same effects keeps = record {
  native = λ sent. subst (λ (n : Option (List LogEntry)). Logged n new.native (moment kernel left sent) (moment became left sent)) same (keeps.native sent);
  effects = λ processor sent. effected_then (effects processor sent) (keeps.effects processor sent);
}

pub kept_told : (kernel became : Kernel) (before between after : Pages) (left : List ℕ) (old kept new : Kept) (result : Result Close Stop) → kept.native ≡ old.native
    → ((processor : Processor) (sent : Sent) → Effected old.effects kept.effects (reached processor before sent) (reached processor between sent))
    → OnOk result (Keeps kernel became between after left kept new) → OnOk result (Keeps kernel became before after left old new)
kept_told kernel became before between after left old kept new (Ok close) same effects keeps = keeps_told same effects keeps
kept_told kernel became before between after left old kept new (Err stop) same effects keeps = tt
