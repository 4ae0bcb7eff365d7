use Rattle.std.proofs.Common.{◌^◌, ◌==◌, ◌∙◌, ap, sym, length, false, arith}
use Rattle.std.proofs.lemmas.Bool.{le-ltb}
use Rattle.std.proofs.lemmas.List.{get_or_past}
use Rattle.number_pool.specs.Places.{is_taken_at}
use Rattle.number_pool.specs.inside.Words.{bit_of, places_in}
use Rattle.number_pool.proofs.Bits.{length-places_in, place_at, places_fit}
use Rattle.number_pool.proofs.pool.NumberPool.is_taken.Goals as goal

pub is_taken-requires : goal.is_taken-requires
is_taken-requires g c = omega (arith, c.places.ensures, c.if-place-places.true, c.self.invariant.sized, ap length c.as_slice-words.ensures.value, places_fit g.row.LEVELS)

pub returns-then-place-places-clause-value : goal.returns-then-place-places-clause-value
returns-then-place-places-clause-value g c =
    let place = c.args.place in
    c.is_taken.ensures
    ∙ ap (λ words. bit_of words place == 1) c.as_slice-words.ensures.value
    ∙ sym (place_at (2 ^ g.row.LEVELS) c.self.inside.words.items place (omega (arith, c.places.ensures, c.if-place-places.true)))
    ∙ ap (λ taken. is_taken_at taken place) c.self.view_is

pub returns-then-place-places-clause-whole : goal.returns-then-place-places-clause-whole
returns-then-place-places-clause-whole g c = ap length (sym c.self.view_is) ∙ length-places_in (2 ^ g.row.LEVELS) c.self.inside.words.items

pub returns-else-place-places-clause-value : goal.returns-else-place-places-clause-value
returns-else-place-places-clause-value g c =
    let taken = places_in (2 ^ g.row.LEVELS) c.self.inside.words.items in
    le-ltb c.args.place c.places.result c.if-place-places.false
    ∙ sym (get_or_past taken c.args.place false (omega (arith, length-places_in (2 ^ g.row.LEVELS) c.self.inside.words.items, c.places.ensures, c.if-place-places.false)))
    ∙ ap (λ l. is_taken_at l c.args.place) c.self.view_is

pub returns-else-place-places-clause-whole : goal.returns-else-place-places-clause-whole
returns-else-place-places-clause-whole g c = ap length (sym c.self.view_is) ∙ length-places_in (2 ^ g.row.LEVELS) c.self.inside.words.items
