-- The first four steps of a turn, and what follows them.
use Rattle.std.proofs.Common.{◌≡◌, ℕ, Bool, true, false, List, Option, Result, Ok, Err, OnOk, refl, sym, ap, ◌∙◌}
use Rattle.std.specs.Prelude.{◌&&◌, if◌then◌else◌, is_some, not}
use Rattle.kernel_core.specs.declared.core_error.Stop.{Stop}
use Rattle.kernel_core.specs.declared.finish.Finish.{Finish}
use Rattle.kernel_model.specs.Pipes.{nothing}
use Rattle.o32_machine.specs.Emulator.{ProcessState, machine_at, machine_of, within_at, within_now}
use Rattle.o32_machine.specs.inside.Steps.{Settles, Takes, begun, goes_on, last_steps, settled}
use Rattle.o32_turns.specs.Machine.{Change, Machine, Turn, Within, turn, with_change}
use Rattle.o32_turns.specs.Posting.{posted}
use Rattle.o32_turns.specs.Turn.{continued, fifth_or_sixth, first_step, fourth_step, second_step, third_step, turn_of, whole}
use Rattle.outside.specs.Streams.{Contents}

-- The first four steps

pub on_ok : {A : Type 0} (result : Result A Stop) (P Q : Type 0) → (P → Q) → OnOk result P → OnOk result Q
on_ok (Ok value) P Q so p = so p
on_ok (Err stop) P Q so p = p

begins : (clock : ℕ) (process : ProcessState) → posted whole (within_at clock (record process { going = begun process.going })) ≡ first_step whole (machine_at clock (machine_of process))
begins clock process = refl

pub settles : {A : Type 0} (clock : ℕ) (result : Result A Stop) (old posted_by new : ProcessState) (before after : Contents)
    → within_now posted_by ≡ posted whole (within_at clock (record old { going = begun old.going }))
    → Takes (λ within. goes_on (third_step whole (second_step whole within))) result posted_by new before after → Settles clock result old new before after
settles clock result old posted_by new before after first takes = λ left told. (
  (takes left told).0,
  on_ok result (within_now new ≡ goes_on (third_step whole (second_step whole (within_now posted_by)))) (within_now new ≡ settled (machine_at clock (machine_of old)))
      (λ is. is ∙ ap (λ (within : Within). goes_on (third_step whole (second_step whole within))) (first ∙ begins clock old)) (takes left told).1,
)

-- Behind them the turn ends.

fourth_over : (resumed : Bool) (within : Within) (change : Change) → (if resumed then with_change within change else within).over ≡ within.over
fourth_over true within change = refl
fourth_over false within change = refl

over_after : (within : Within) → (fourth_step whole within).over ≡ within.over
over_after within =
    fourth_over (within.machine.interrupted && not within.machine.stopped) within (continued whole within.machine within.machine.wait)

module _ (quantum : ℕ) (left : List ℕ) where
  abbrev ends_so : Within → Turn
  ends_so within = turn within left nothing

  abbrev goes_so : Within → Turn
  goes_so within = fifth_or_sixth whole quantum within left

  abbrev rest_of : Within → Turn
  rest_of within = if is_some within.over then ends_so within else goes_so within

  rest_by : (over : Bool) (third fourth : Within) → is_some third.over ≡ over → is_some fourth.over ≡ over
      → (if is_some third.over then ends_so third else goes_so fourth) ≡ rest_of (if is_some third.over then third else fourth)
  rest_by true third fourth is other =
      ap (λ (b : Bool). if b then ends_so third else goes_so fourth) is
      ∙ sym (ap (λ (b : Bool). rest_of (if b then third else fourth)) is ∙ ap (λ (b : Bool). if b then ends_so third else goes_so third) is)
  rest_by false third fourth is other =
      ap (λ (b : Bool). if b then ends_so third else goes_so fourth) is
      ∙ sym (ap (λ (b : Bool). rest_of (if b then third else fourth)) is ∙ ap (λ (b : Bool). if b then ends_so fourth else goes_so fourth) other)

  pub turn_settled : (machine : Machine) → turn_of quantum machine left ≡ last_steps quantum (settled machine) left
  unfolding turn_of
  turn_settled machine =
      let third = third_step whole (second_step whole (first_step whole machine)) in
      rest_by (is_some third.over) third (fourth_step whole third) refl (ap (λ (over : Option Finish). is_some over) (over_after third))
