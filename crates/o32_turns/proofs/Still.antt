-- A turn in which nothing is to be delivered is one without delivery.
use Rattle.std.proofs.Common.{◌≡◌, ℕ, zero, suc, Bool, true, false, List, refl, sym, ap, ◌∙◌}
use Rattle.std.specs.Prelude.{is_some, if◌then◌else◌}
use Rattle.o32_turns.specs.Closing.{whole_end}
use Rattle.o32_turns.specs.Delivering.{deliver, is_delivered, most_rounds, round_by, rounds}
use Rattle.o32_turns.specs.Machine.{Ends, Machine, Rules, Turn, Within}
use Rattle.o32_turns.specs.Turn.{first_step, second_step, third_step, turn_by, turn_of, unless_killed, whole}

-- the same in either case
pub either : {A : Type 0} (test : Bool) (one other same : A) → one ≡ same → other ≡ same → (if test then one else other) ≡ same
either true one other same first second = first
either false one other same first second = second

pub rounds_stay : (ended : Ends) (count : ℕ) (within : Within) → is_delivered within ≡ true → rounds ended count within ≡ within
unfolding rounds
rounds_stay ended zero within done = refl
rounds_stay ended (suc more) within done =
    ap (λ (b : Bool). if b then within else rounds ended more (round_by ended within within.machine.fault)) done

pub delivery_stays : (ended : Ends) (within : Within) → is_delivered within ≡ true → deliver ended within ≡ within
delivery_stays ended within done =
    either (is_some within.machine.processor.slot) within (rounds ended most_rounds within) within refl (rounds_stay ended most_rounds within done)

abbrev pub still : Rules
still = record whole { deliver = λ within. within }

abbrev pub still_turn : ℕ → Machine → List ℕ → Turn
still_turn quantum machine left = turn_by still quantum machine left

-- what the first two steps leave, before anything is delivered
abbrev pub before_delivery : Machine → Within
before_delivery machine = second_step whole (first_step whole machine)

pub nothing_delivered : (quantum : ℕ) (machine : Machine) (left : List ℕ) → is_delivered (before_delivery machine) ≡ true
    → turn_of quantum machine left ≡ still_turn quantum machine left
unfolding turn_of
nothing_delivered quantum machine left done =
    let within = before_delivery machine in
    let stays : third_step whole within ≡ within =
    either within.machine.stopped within (whole.deliver within) within refl (delivery_stays whole_end within done) in
    let still_stays : third_step still within ≡ within = either within.machine.stopped within within within refl refl in
    ap (λ (w : Within). unless_killed whole quantum w left) (stays ∙ sym still_stays)
