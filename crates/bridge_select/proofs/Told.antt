-- What is told of a native call that has ended.
use Rattle.std.proofs.Common.{◌≡◌, ℕ, List, sym, ap, ◌∙◌}
use Rattle.std.specs.Prelude.{Option, Result, Ok, Err, IfOk}
use Rattle.guest_space.specs.Memory.{Memory}
use Rattle.kernel_core.specs.declared.core_error.NoMemory.{NoMemory}
use Rattle.kernel_model.specs.Came.{Came, Done, Refused, Waits}
use Rattle.kernel_model.specs.Readiness.{Sets, set_count}
use Rattle.native_calls.specs.Step as native
use Rattle.o32_model.specs.Results.{all_fit, value_if, with_pieces}
use Rattle.o32_model.specs.Selecting.{Asked, sets_pieces}
use Rattle.o32_model.specs.Step as o32
use Rattle.o32_model.specs.TimeLeft.{LeftForm, with_left_of}
use Rattle.o32_model.specs.declared.call_words.CallWords.{CallWords}
use Rattle.o32_model.specs.declared.outcome.Outcome.{Outcome}
use Rattle.o32_model.specs.declared.outcome.Outcome.TheVariants as outcomes
use Rattle.bridge_limits.proofs.Storing.{alike_pieces, alike_same, left_of_alike}
use Rattle.bridge_limits.specs.Limits.{StoresAlike}
use Rattle.bridge_limits.proofs.Passed.{outcome_of_failure, outcome_of_value}
use Rattle.bridge_limits.specs.Passed.{outcome_of}
use Rattle.bridge_select.specs.declared.rooms.Places.{Places}
use Rattle.bridge_select.specs.inside.Telling.{IsCounted, Shows, ShowsSets, told_memory, told_outcome}

-- The sets of what is ready are stored, and their number is the result.

abbrev Ends : Memory → Memory → Asked → ℕ → Sets → Outcome → Type 0
Ends memory after asked number sets outcome =
    (outcome ≡ value_if (all_fit memory (sets_pieces asked sets)) number) × (after ≡ with_pieces memory (sets_pieces asked sets))

abbrev Told : Memory → Memory → Asked → CallWords → Came Sets → Outcome → Type 0
Told memory after asked words came outcome = (outcome ≡ told_outcome memory asked words came) × (after ≡ told_memory memory asked came)

counted_same : (memory after : Memory) (asked : Asked) (words : CallWords) (sets : Sets) (number : ℕ) (outcome : Outcome) → number ≡ set_count sets → Ends memory after asked number sets outcome
    → Told memory after asked words (Done sets) outcome
counted_same memory after asked words sets number outcome same ends = (ends.0 ∙ ap (value_if (all_fit memory (sets_pieces asked sets))) same, ends.1)

if_told : (result : Result Outcome NoMemory) (memory after : Memory) (asked : Asked) (words : CallWords) (sets : Sets) (number : ℕ) → number ≡ set_count sets
    → IfOk result (Ends memory after asked number sets) → IfOk result (Told memory after asked words (Done sets))
if_told (Ok outcome) memory after asked words sets number same ends = counted_same memory after asked words sets number outcome same ends
if_told (Err error) memory after asked words sets number same ends = tt

pub ready_told : (result : Result Outcome NoMemory) (memory after : Memory) (asked : Asked) (places : Places) (room : List ℕ) (words : CallWords) (number : ℕ) (found : Outcome) (came : Came Sets)
    → found ≡ outcomes.Value number → found ≡ o32.outcome_of (λ sets. o32.value (set_count sets)) words came → Shows asked places came room
    → ((sets : Sets) → ShowsSets asked places sets room → IfOk result (Ends memory after asked number sets)) → IfOk result (Told memory after asked words came)
ready_told result memory after asked places room words number found (Done sets) is was shows ends =
    let same : outcomes.Value number ≡ outcomes.Value (set_count sets) = sym is ∙ was in
    let count : number ≡ set_count sets = cc in
    if_told result memory after asked words sets number count (ends sets shows)
ready_told result memory after asked places room words number found (Refused error) is was shows ends = absurd cc
ready_told result memory after asked places room words number found (Waits wake) is was shows ends = absurd shows

-- A reply as an outcome

pub reply_outcome : (asked : Asked) (places : Places) (room : List ℕ) (words : CallWords) (came : Came Sets) → Shows asked places came room → IsCounted came
    → outcome_of words (native.reply_to (λ sets. native.value (set_count sets)) came) ≡ o32.outcome_of (λ sets. o32.value (set_count sets)) words came
reply_outcome asked places room words (Done sets) shows fits = outcome_of_value words (set_count sets) fits
reply_outcome asked places room words (Refused error) shows fits = outcome_of_failure words error
reply_outcome asked places room words (Waits wake) shows fits = absurd shows

-- The time that is left is stored behind that.

told_alike : (memory : Memory) (asked : Asked) (came : Came Sets) → StoresAlike memory (told_memory memory asked came)
told_alike memory asked (Done sets) = alike_pieces memory (sets_pieces asked sets)
told_alike memory asked (Refused error) = alike_same memory
told_alike memory asked (Waits wake) = alike_same memory

pub time_told : (memory between after : Memory) (asked : Asked) (came : Came Sets) (form : LeftForm) (left : Option ℕ) → between ≡ told_memory memory asked came → after ≡ with_left_of form between left between
    → after ≡ with_left_of form memory left (told_memory memory asked came)
time_told memory between after asked came form left is stored =
    stored
    ∙ ap (λ (m : Memory). with_left_of form m left m) is
    ∙ sym (left_of_alike form memory (told_memory memory asked came) (told_memory memory asked came) left (told_alike memory asked came))
