use Rattle.std.proofs.Common.{◌≡◌, ◌+◌, ◌-◌, ◌*◌, ◌^◌, ap, sym, subst, arith}
use Rattle.std.specs.Option.{MatchOption}
use Rattle.number_pool.specs.Places.{AreTakenFrom, IsLeastFreeFrom}
use Rattle.number_pool.specs.inside.Tree.{leaves}
use Rattle.number_pool.specs.inside.Words.{word_count}
use Rattle.number_pool.proofs.Below.{taken_from, least_from}
use Rattle.number_pool.proofs.Bits.{count_small}
use Rattle.number_pool.proofs.search.first_not_full.Goals as goal

pub overflow_add-words : goal.overflow_add-words
overflow_add-words c = omega (arith, c.word_count-words.ensures, c.requires.from, count_small c.args.levels c.requires.small)

pub least_free_below-requires-clause-small : goal.least_free_below-requires-clause-small
least_free_below-requires-clause-small c = omega (arith, c.requires.tree.sized, count_small c.args.levels c.requires.small)

pub returns-in_err-leaf : goal.returns-in_err-leaf
returns-in_err-leaf c =
    let size = word_count c.args.levels in
    let full = c.args.full.now in
    let from = c.args.from in
    let power : 2 ^ c.levels_above.result ≡ size = ap (λ k. 2 ^ k) c.levels_above.ensures in
    let taken =
    taken_from size full c.requires.tree from (1 * 2 ^ c.levels_above.result) (2 * 2 ^ c.levels_above.result) (c.word_count-words.result + from) (omega (arith, power)) (omega (arith, power)) (omega (arith, c.word_count-words.ensures)) c.in_err-leaf.ensures in
    subst (λ r. MatchOption r (AreTakenFrom (leaves size full) from) (IsLeastFreeFrom (leaves size full) from)) (sym c.from_residual.ensures) taken

pub returns : goal.returns
returns c =
    let size = word_count c.args.levels in
    let full = c.args.full.now in
    let from = c.args.from in
    let power : 2 ^ c.levels_above.result ≡ size = ap (λ k. 2 ^ k) c.levels_above.ensures in
    let found =
    least_from size full c.requires.tree from (1 * 2 ^ c.levels_above.result) (2 * 2 ^ c.levels_above.result) (c.word_count-words.result + from) (omega (arith, power)) (omega (arith, power)) (omega (arith, c.word_count-words.ensures)) c.in_ok-leaf.leaf c.in_ok-leaf.ensures in
    subst (λ n. IsLeastFreeFrom (leaves size full) from (c.in_ok-leaf.leaf - n)) (sym c.word_count-words.ensures) found
