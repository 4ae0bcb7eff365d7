use Rattle.std.proofs.Common.{◌+◌, ◌-◌, ◌%◌, ℕ, None, get_or, refl, sym, ◌∙◌, arith}
use Rattle.raw_pages.specs.Pages.{zero_page}
use Rattle.raw_pages.proofs.Tables.{entry-found}
use Rattle.raw_pages.proofs.Fills.{fills-leaf, absent-leaf, absent_among-le}
use Rattle.raw_pages.proofs.table.fill.Goals as goal

pub returns-in-Some-clause-fresh : goal.returns-in-Some-clause-fresh
returns-in-Some-clause-fresh c =
    c.fill.ensures.fresh
    ∙ sym (absent-leaf c.args.leaves.now c.leaf_of.result c.args.first c.args.end c.place_of.result (c.place_of-in-Some.result + 1) (λ (p : ℕ). get_or c.in-Some.leaf p None)
    c.leaf_of.ensures c.requires.some c.requires.one c.place_of.ensures.place (omega (arith, c.place_of-in-Some.ensures.place))
    (λ q same. entry-found c.args.leaves.now q c.leaf_of.result (q % 1024) _ _ (sym same) refl c.in-Some.is (omega (arith, same, c.requires.room, c.leaf_of.ensures))))

pub returns-in-Some-clause-now : goal.returns-in-Some-clause-now
returns-in-Some-clause-now c =
    fills-leaf c.args.leaves.now c.leaf_of.result c.args.first c.args.end c.place_of.result (c.place_of-in-Some.result + 1) (λ (p : ℕ). get_or c.in-Some.leaf p None)
    c.leaf_of.ensures c.requires.some c.requires.one c.place_of.ensures.place (omega (arith, c.place_of-in-Some.ensures.place))
    (λ q same. entry-found c.args.leaves.now q c.leaf_of.result (q % 1024) _ _ (sym same) refl c.in-Some.is (omega (arith, same, c.requires.room, c.leaf_of.ensures)))
    c.fill.new.self (zero_page c.args.protection) (omega (arith, c.requires.room, c.leaf_of.ensures)) c.fill.ensures.now

pub overflow_cast-result : goal.overflow_cast-result
overflow_cast-result c =
    let most = absent_among-le (λ (p : ℕ). get_or c.in-Some.leaf p None) c.place_of.result (c.place_of-in-Some.result + 1 - c.place_of.result) in
    omega (arith, most, c.fill.ensures.fresh, c.place_of-in-Some.ensures.inside)
