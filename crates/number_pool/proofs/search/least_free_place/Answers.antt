use Rattle.std.proofs.Common.{◌<◌, sym, subst, arith}
use Rattle.std.specs.Option.{MatchOption}
use Rattle.number_pool.specs.inside.Words.{AreOnesFrom, IsLeastZeroFrom, word_count}
use Rattle.number_pool.proofs.Bits.{count_small, found_first, found_later, none_found, places_fit}
use Rattle.number_pool.proofs.Mending.{length-leaves}
use Rattle.number_pool.proofs.search.least_free_place.Goals as goal
use Rattle.number_pool.proofs.search.least_free_place.Goals.{After-first_free_place-place}

pub bounds-words-first : goal.bounds-words-first
bounds-words-first c = omega (arith, c.requires.from, c.requires.pool.sized, places_fit c.args.levels)

pub returns-in-Some : goal.returns-in-Some
returns-in-Some c =
    found_first c.args.words.now c.args.full.now (word_count c.args.levels) c.requires.pool.sized c.requires.pool.told c.args.from c.in-Some.place
    (omega (arith, c.requires.from, places_fit c.args.levels)) c.in-Some.ensures

pub first_not_full-requires-clause-from : goal.first_not_full-requires-clause-from
first_not_full-requires-clause-from c = omega (arith, c.requires.from, places_fit c.args.levels)

pub returns-in_err-number : goal.returns-in_err-number
returns-in_err-number c =
    let words = c.args.words.now in
    let from = c.args.from in
    let count = word_count c.args.levels in
    let ones =
    none_found words c.args.full.now count c.requires.pool.sized c.requires.pool.told from (length-leaves count c.args.full.now c.requires.pool.tree.sized) c.in_default.ensures c.in_err-number.ensures in
    subst (λ r. MatchOption r (AreOnesFrom words from) (IsLeastZeroFrom words from)) (sym c.from_residual.ensures) ones

number_small : (c : After-first_free_place-place) → c.in_ok-number.number < 16777216
number_small c =
    let free = c.in_ok-number.ensures in
    let inside = free.inside in
    omega (arith, inside, length-leaves (word_count c.args.levels) c.args.full.now c.requires.pool.tree.sized, count_small c.args.levels c.requires.pool.small)

pub overflow_mul-result-2 : goal.overflow_mul-result-2
overflow_mul-result-2 c = omega (arith, number_small c)

pub overflow_add-result-2 : goal.overflow_add-result-2
overflow_add-result-2 c = omega (arith, number_small c, c.first_free_place-place.ensures.inside)

pub returns : goal.returns
returns c =
    let count = word_count c.args.levels in
    found_later c.args.words.now c.args.full.now count c.requires.pool.sized c.requires.pool.told c.args.from c.in_ok-number.number c.first_free_place-place.result
    (length-leaves count c.args.full.now c.requires.pool.tree.sized) c.in_default.ensures c.in_ok-number.ensures c.first_free_place-place.ensures
