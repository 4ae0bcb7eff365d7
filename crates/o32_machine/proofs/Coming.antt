-- The events of a schedule from its cursor on.
use Rattle.std.proofs.Common.{◌≡◌, ℕ, zero, suc, ◌+◌, ◌^◌, ◌≤◌, Bool, true, false, List, [], ◌∷◌, Option, Some, None, refl, ap, subst, ◌∙◌}
use Rattle.std.proofs.lemmas.List.{drop_more}
use Rattle.std.proofs.lemmas.List.Elements.{All-get_or}
use Rattle.std.proofs.lemmas.Option.{get_or_from_slice_get, slice_get_within}
use Rattle.std.specs.Prelude.{All, IfSome, drop, if◌then◌else◌, nat_le, option_map, slice_get}
use Rattle.o32_turns.specs.Turn.{next_event}
use Rattle.schedule.specs.Cursor.{due_at}
use Rattle.schedule.specs.Ranges.{IsDueInRange, IsGivenSchedule}
use Rattle.schedule.specs.declared.Schedule.{Schedule}
use Rattle.schedule.specs.declared.events.Due.{Due}

-- what stands at a place, and behind it

pub from_place : {A : Type 0} (list : List A) (place : ℕ) (item : A) → slice_get list place ≡ Some item → drop place list ≡ item ∷ drop (place + 1) list
from_place {A} list place item is =
    drop_more list place item (slice_get_within list place item is)
    ∙ ap (λ (first : A). first ∷ drop (place + 1) list) (get_or_from_slice_get list place item item is)

pub holds_there : {A : Type 0} (P : A → Type 0) (list : List A) (place : ℕ) (item : A) → All P list → slice_get list place ≡ Some item → P item
holds_there P list place item all is =
    subst P (get_or_from_slice_get list place item item is) (All-get_or P list place item (slice_get_within list place item is) all)

-- an event that is due stands there

pub found_due : (due : Bool) (there event : Due) → (if due then Some there else None) ≡ Some event → (there ≡ event) × (due ≡ true)
found_due true there event is = (let same : there ≡ event = cc in same, refl)
found_due false there event is = absurd cc

pub due_there : (clock : ℕ) (found : Option Due) (event : Due) → due_at clock found ≡ Some event → (found ≡ Some event) × (nat_le event.time clock ≡ true)
due_there clock None event is = absurd cc
due_there clock (Some there) event is =
    let both = found_due (nat_le there.time clock) there event is in
    (ap Some both.0, subst (λ (due : Due). nat_le due.time clock ≡ true) both.0 both.1)

-- the time of the event at the cursor is that of the first one that is to come
pub next_is : (events : List Due) (place : ℕ) → option_map (λ (due : Due). due.time) (slice_get events place) ≡ next_event (drop place events)
next_is [] zero = refl
next_is [] (suc place) = refl
next_is (event ∷ events) zero = refl
next_is (event ∷ events) (suc place) = next_is events place

-- it comes by 2^60

early_there : (found : Option Due) → ((event : Due) → found ≡ Some event → IsDueInRange event) → IfSome (option_map (λ (due : Due). due.time) found) (λ (time : ℕ). time ≤ 2 ^ 60)
early_there None within = tt
early_there (Some event) within = (within event refl).time.most

pub next_is_early : (schedule : Schedule) → IsGivenSchedule schedule
    → IfSome (option_map (λ (due : Due). due.time) (slice_get schedule.events schedule.at)) (λ (time : ℕ). time ≤ 2 ^ 60)
next_is_early schedule given =
    early_there (slice_get schedule.events schedule.at) (λ event is. holds_there IsDueInRange schedule.events schedule.at event given.in_range.events is)
