use Rattle.std.proofs.Common.{◌^◌, ◌∙◌, ap, sym, subst, length, arith}
use Rattle.std.specs.Option.{MatchOption}
use Rattle.number_pool.specs.Places.{AreTakenFrom, IsLeastFreeFrom}
use Rattle.number_pool.specs.inside.Words.{AreOnesFrom, IsLeastZeroFrom}
use Rattle.number_pool.proofs.Bits.{least_from_zero, length-places_in, places_fit, taken_below, taken_from_ones}
use Rattle.number_pool.proofs.pool.NumberPool.least_free_from.Goals as goal

pub returns-then-from-places-clause-whole : goal.returns-then-from-places-clause-whole
returns-then-from-places-clause-whole g c = ap length (sym c.self.view_is) ∙ length-places_in (2 ^ g.row.LEVELS) c.self.inside.words.items

pub returns-then-from-places-clause-least : goal.returns-then-from-places-clause-least
returns-then-from-places-clause-least g c = λ place there inside.
    absurd (omega (arith, there, inside, returns-then-from-places-clause-whole g c, c.places-places.ensures, c.if-from-places.true))

pub returns-in_err-place-clause-whole : goal.returns-in_err-place-clause-whole
returns-in_err-place-clause-whole g c = ap length (sym c.self.view_is) ∙ length-places_in (2 ^ g.row.LEVELS) c.self.inside.words.items

pub returns-in_err-place-clause-least : goal.returns-in_err-place-clause-least
returns-in_err-place-clause-least g c =
    let size = 2 ^ g.row.LEVELS in
    let words = c.self.inside.words.items in
    let from = c.args.from in
    let ones = subst (λ w. AreOnesFrom w from) c.as_slice-words.ensures.value c.in_err-place.ensures in
    let taken = taken_from_ones size words from (omega (arith, places_fit g.row.LEVELS, c.self.invariant.sized)) ones in
    subst (λ r. MatchOption r (AreTakenFrom c.args.self.now from) (IsLeastFreeFrom c.args.self.now from)) (sym c.from_residual.ensures)
    (subst (λ l. AreTakenFrom l from) c.self.view_is taken)

pub returns-then-place-places-clause-whole : goal.returns-then-place-places-clause-whole
returns-then-place-places-clause-whole g c = ap length (sym c.self.view_is) ∙ length-places_in (2 ^ g.row.LEVELS) c.self.inside.words.items

pub returns-then-place-places-clause-least : goal.returns-then-place-places-clause-least
returns-then-place-places-clause-least g c =
    let from = c.args.from in
    let place = c.in_ok-place.place in
    let least = subst (λ w. IsLeastZeroFrom w from place) c.as_slice-words.ensures.value c.in_ok-place.ensures in
    subst (λ l. IsLeastFreeFrom l from place) c.self.view_is
    (least_from_zero (2 ^ g.row.LEVELS) c.self.inside.words.items from place (omega (arith, c.places-places.ensures, c.if-place-places.true)) least)

pub returns-else-place-places-clause-whole : goal.returns-else-place-places-clause-whole
returns-else-place-places-clause-whole g c = ap length (sym c.self.view_is) ∙ length-places_in (2 ^ g.row.LEVELS) c.self.inside.words.items

pub returns-else-place-places-clause-least : goal.returns-else-place-places-clause-least
returns-else-place-places-clause-least g c =
    let from = c.args.from in
    let place = c.in_ok-place.place in
    let least = subst (λ w. IsLeastZeroFrom w from place) c.as_slice-words.ensures.value c.in_ok-place.ensures in
    subst (λ l. AreTakenFrom l from) c.self.view_is
    (taken_below (2 ^ g.row.LEVELS) c.self.inside.words.items from place (omega (arith, c.places-places.ensures, c.if-place-places.false)) least)
