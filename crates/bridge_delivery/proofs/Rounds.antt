-- Rounds, one after the other.
use Rattle.std.proofs.Common.{◌≡◌, ℕ, suc, ◌+◌, ◌-◌, ◌<◌, ◌≤◌, Bool, true, false, ap, sym, ◌∙◌, arith}
use Rattle.std.specs.Prelude.{is_some, if◌then◌else◌}
use Rattle.o32_turns.proofs.Still.{rounds_stay}
use Rattle.o32_turns.specs.Closing.{whole_end}
use Rattle.o32_turns.specs.Delivering.{deliver, is_delivered, most_rounds, round_by, rounds}
use Rattle.o32_turns.specs.Machine.{Within}

pub one_round : (count : ℕ) (within : Within) → count < 2112 → is_delivered within ≡ false
    → rounds whole_end (2112 - count) within ≡ rounds whole_end (2112 - (count + 1)) (round_by whole_end within within.machine.fault)
unfolding rounds
one_round count within below off =
    let more : 2112 - count ≡ suc (2112 - (count + 1)) = omega arith in
    ap (λ (n : ℕ). rounds whole_end n within) more
    ∙ ap (λ (b : Bool). if b then within else rounds whole_end (2112 - (count + 1)) (round_by whole_end within within.machine.fault)) off

no_round : (count : ℕ) (within : Within) → 2112 ≤ count → rounds whole_end (2112 - count) within ≡ within
unfolding rounds
no_round count within over =
    let none : 2112 - count ≡ 0 = omega arith in
    ap (λ (n : ℕ). rounds whole_end n within) none

outside_slot : (within : Within) → is_some within.machine.processor.slot ≡ false → rounds whole_end most_rounds within ≡ deliver whole_end within
outside_slot within none = sym (ap (λ (b : Bool). if b then within else rounds whole_end most_rounds within) none)

-- what stands once it is over, or once all rounds are done
pub over_so : (count : ℕ) (first within : Within) → is_some first.machine.processor.slot ≡ false → is_delivered within ≡ true
    → rounds whole_end (2112 - count) within ≡ rounds whole_end 2112 first → within ≡ deliver whole_end first
over_so count first within none done so = sym (rounds_stay whole_end (2112 - count) within done) ∙ so ∙ outside_slot first none

pub all_done : (count : ℕ) (first within : Within) → is_some first.machine.processor.slot ≡ false → 2112 ≤ count
    → rounds whole_end (2112 - count) within ≡ rounds whole_end 2112 first → within ≡ deliver whole_end first
all_done count first within none over so = sym (no_round count within over) ∙ so ∙ outside_slot first none
