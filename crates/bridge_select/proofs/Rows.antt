-- The rows by what is asked for.
use Rattle.std.proofs.Common.{◌≡◌, ℕ, List, refl, sym, ap, ◌∙◌}
use Rattle.std.specs.Prelude.{Option, Some, None, Ok, Err}
use Rattle.bridge_limits.proofs.LimitedRows.{limited, limited_kernel, limited_memory, limited_outcome, step_of, with_came}
use Rattle.bridge_limits.specs.Limits.{length_at}
use Rattle.bridge_limits.specs.declared.times.TimeForm.TheVariants.{Microseconds, Nanoseconds}
use Rattle.kernel_model.specs.Came.{Did, Given}
use Rattle.kernel_model.specs.Clock.{left_of_wait}
use Rattle.kernel_model.specs.Readiness.{Sets, select, set_count}
use Rattle.kernel_model.specs.State.{Kernel}
use Rattle.o32_calls.specs.Numbers.{select_number}
use Rattle.o32_calls.specs.declared.times.SelectCall.{SelectCall}
use Rattle.o32_calls.specs.declared.times.SelectCall.TheVariants.{Newselect, Pselect6}
use Rattle.o32_model.specs.Masks.{with_own_mask}
use Rattle.o32_model.specs.Results.{stores_pieces}
use Rattle.o32_model.specs.Selecting.{Asked, OwnMask, mask_at, newselect_row, newselected, no_mask, pselect6_row, pselected, selected, sets_pieces, with_pair}
use Rattle.o32_model.specs.Step.{Guest, O32Step}
use Rattle.o32_model.specs.Table.{call_of, machine_call, seeing_call_of, seeing_step_of}
use Rattle.o32_model.specs.TimeLeft.{with_time_left}
use Rattle.o32_model.specs.Times.{val_bytes}
use Rattle.o32_model.specs.Words.{stack_word}
use Rattle.o32_model.specs.declared.outcome.Outcome.{Outcome}
use Rattle.o32_model.specs.declared.outcome.Outcome.TheVariants as outcomes
use Rattle.o32_model.specs.declared.wait.Seen.{Seen}
use Rattle.bridge_select.specs.inside.Requests.{Requested, asked_words, does, masked, pselect_requested, requested_by, select_requested, selects, waiting}
use Rattle.bridge_select.specs.inside.Telling.{selecting}

-- a mask that is none changes nothing
unmasked : (kernel : Kernel) (step : O32Step) → step ≡ with_own_mask kernel None step
unmasked kernel step = by step.outcome refl where
  by : (outcome : Outcome) → step.outcome ≡ outcome → step ≡ with_own_mask kernel None step
  by (outcomes.Value value) is = rw is refl
  by (outcomes.Pair first second) is = rw is refl
  by (outcomes.Error error) is = rw is refl
  by (outcomes.Sleep wait) is = rw is refl
  by outcomes.Frame is = rw is refl
  by outcomes.BadFrame is = rw is refl
  by (outcomes.Exit status) is = rw is refl

select_law : (kernel : Kernel) (guest : Guest) (asked : Asked) (time : ℕ) (length : Given (Option ℕ)) (left : List ℕ)
    → newselected kernel guest asked time length left ≡ does kernel guest left (waiting asked (record { form = Microseconds; address = time }) no_mask length)
unfolding select
select_law kernel guest asked time (Err error) left = refl
select_law kernel guest asked time (Ok wait) left =
    ap (with_time_left (record { address = time; bytes = val_bytes }) kernel guest.memory (Ok wait)) (unmasked kernel (selected kernel guest asked (Ok wait) left))

pselect_law : (kernel : Kernel) (guest : Guest) (asked : Asked) (time : ℕ) (length : Given (Option ℕ)) (own : OwnMask) (left : List ℕ)
    → pselected kernel guest asked time length own left ≡ does kernel guest left (waiting asked (record { form = Nanoseconds; address = time }) own length)
unfolding select
pselect_law kernel guest asked time (Err error) own left = refl
pselect_law kernel guest asked time (Ok wait) own left = refl

pair_law : (kernel : Kernel) (guest : Guest) (asked : Asked) (time : ℕ) (given : Given OwnMask) (left : List ℕ)
    → with_pair kernel guest asked time given left ≡ does kernel guest left (masked guest.memory asked (record { form = Nanoseconds; address = time }) given)
pair_law kernel guest asked time (Err error) left = refl
pair_law kernel guest asked time (Ok own) left = pselect_law kernel guest asked time (length_at guest.memory (record { form = Nanoseconds; address = time })) own left

newselect_law : (kernel : Kernel) (guest : Guest) (asked : Asked) (time : Option ℕ) (left : List ℕ) → newselect_row kernel guest asked time left ≡ does kernel guest left (select_requested guest.memory asked time)
unfolding newselect_row
newselect_law kernel guest asked None left = refl
newselect_law kernel guest asked (Some time) left = select_law kernel guest asked time (length_at guest.memory (record { form = Microseconds; address = time })) left

pselect6_law : (kernel : Kernel) (guest : Guest) (asked : Asked) (time pair : Option ℕ) (left : List ℕ)
    → pselect6_row kernel guest asked time pair left ≡ does kernel guest left (pselect_requested guest.memory asked time pair)
unfolding pselect6_row
pselect6_law kernel guest asked None pair left = refl
pselect6_law kernel guest asked (Some time) None left = refl
pselect6_law kernel guest asked (Some time) (Some pair) left = pair_law kernel guest asked time (mask_at guest.memory pair) left

abbrev call_at : ℕ → Seen → Kernel → Guest → List ℕ → O32Step
call_at number seen kernel guest left = seeing_step_of (call_of number) (seeing_call_of number) seen kernel guest left

by_name : (call : SelectCall) (seen : Seen) (kernel : Kernel) (guest : Guest) (left : List ℕ) → guest.words.nr ≡ select_number call
    → machine_call seen kernel guest left ≡ does kernel guest left (requested_by call guest.words guest.memory)
by_name Newselect seen kernel guest left number =
    ap (λ (n : ℕ). call_at n seen kernel guest left) number
    ∙ newselect_law kernel guest (asked_words guest.words.reg) (stack_word guest.words 0) left
by_name Pselect6 seen kernel guest left number =
    ap (λ (n : ℕ). call_at n seen kernel guest left) number
    ∙ pselect6_law kernel guest (asked_words guest.words.reg) (stack_word guest.words 0) (stack_word guest.words 1) left

pub called_row : (call : SelectCall) (seen : Seen) (kernel : Kernel) (guest : Guest) (left : List ℕ) (given : Given Requested) → guest.words.nr ≡ select_number call → given ≡ requested_by call guest.words guest.memory
    → machine_call seen kernel guest left ≡ does kernel guest left given
called_row call seen kernel guest left given number is = by_name call seen kernel guest left number ∙ sym (ap (does kernel guest left) is)

-- What the call then does, by what its row came to

pub selects_is : (kernel : Kernel) (guest : Guest) (requested : Requested) (left : List ℕ) → (selecting kernel guest.memory requested).state ≡ kernel
    → selects kernel guest requested left
    ≡ step_of (limited_kernel kernel requested.own.mask (selecting kernel guest.memory requested).came) guest left
    (limited_memory (sets_pieces requested.asked) requested.form (left_of_wait kernel kernel.clock requested.wait) guest.memory (selecting kernel guest.memory requested).came)
    (limited_outcome (sets_pieces requested.asked) set_count kernel requested.own.mask guest (selecting kernel guest.memory requested).came)
selects_is kernel guest requested left stays =
    let did = selecting kernel guest.memory requested in
    let same : did ≡ with_came kernel did.came = λ i. record { state = stays i; came = did.came } in
    ap (λ (d : Did Kernel Sets). with_time_left requested.form kernel guest.memory (Ok requested.wait) (with_own_mask kernel requested.own.mask (stores_pieces (sets_pieces requested.asked) set_count guest d left))) same
    ∙ limited (sets_pieces requested.asked) set_count requested.form kernel guest (Ok requested.wait) requested.own.mask did.came left
