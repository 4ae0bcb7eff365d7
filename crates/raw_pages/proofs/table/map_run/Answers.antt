use Rattle.std.proofs.Common.{◌≡◌, ◌≤◌, ◌+◌, ◌-◌, ◌%◌, ◌<◌, ℕ, List, Option, None, get_or, length, refl, sym, subst, ◌∙◌, arith}
use Rattle.raw_pages.specs.Pages.{MappedPage, zero_page}
use Rattle.raw_pages.specs.inside.Tables.{Fills}
use Rattle.raw_pages.proofs.Tables.{entry-found, none_of}
use Rattle.raw_pages.proofs.Fills.{fills-leaf, absent-leaf, absent_among-all, fills-parts}
use Rattle.raw_pages.proofs.table.map_run.Goals as goal

pub returns-then-is_none-clause-fresh : goal.returns-then-is_none-clause-fresh
returns-then-is_none-clause-fresh c =
    let room : c.leaf_of-at.result < length c.args.leaves.now = omega (arith, c.leaf_of-at.ensures, c.requires.room) in
    let long : c.args.end - c.args.first ≡ c.place_of-then-is_none.result + 1 - c.place_of.result =
    omega (arith, c.place_of.ensures.place, c.place_of-then-is_none.ensures.place, c.requires.some, c.requires.one) in
    long
    ∙ sym (absent_among-all MappedPage c.place_of.result (c.place_of-then-is_none.result + 1 - c.place_of.result))
    ∙ sym (absent-leaf c.args.leaves.now c.leaf_of-at.result c.args.first c.args.end c.place_of.result (c.place_of-then-is_none.result + 1) (λ _. None)
    c.leaf_of-at.ensures c.requires.some c.requires.one c.place_of.ensures.place (omega (arith, c.place_of-then-is_none.ensures.place))
    (λ q same. entry-found c.args.leaves.now q c.leaf_of-at.result (q % 1024) c.index-leaves-at.result None (sym same) refl
    (none_of _ c.if-is_none.ensures) (omega (arith, same, room))))

pub returns-then-is_none-clause-ok : goal.returns-then-is_none-clause-ok
returns-then-is_none-clause-ok c =
    let room : c.leaf_of-at.result < length c.args.leaves.now = omega (arith, c.leaf_of-at.ensures, c.requires.room) in
    let order : c.place_of.result ≤ c.place_of-then-is_none.result + 1 =
    omega (arith, c.place_of.ensures.place, c.place_of-then-is_none.ensures.place, c.requires.some, c.requires.one) in
    fills-leaf c.args.leaves.now c.leaf_of-at.result c.args.first c.args.end c.place_of.result (c.place_of-then-is_none.result + 1) (λ _. None)
    c.leaf_of-at.ensures c.requires.some c.requires.one c.place_of.ensures.place (omega (arith, c.place_of-then-is_none.ensures.place))
    (λ q same. entry-found c.args.leaves.now q c.leaf_of-at.result (q % 1024) c.index-leaves-at.result None (sym same) refl
    (none_of _ c.if-is_none.ensures) (omega (arith, same, room)))
    c.in_ok-leaf.leaf (zero_page c.args.protection) room
    (subst (λ (es : List (Option MappedPage)). Fills (λ _. None) (λ (p : ℕ). get_or es p None) c.place_of.result (c.place_of-then-is_none.result + 1) (zero_page c.args.protection))
    (sym c.in_ok-leaf.ensures)
    (fills-parts c.place_of.result (c.place_of-then-is_none.result + 1) (1024 - (c.place_of-then-is_none.result + 1)) (zero_page c.args.protection) order))
