use Rattle.std.proofs.Common.{◌≡◌, ◌-◌, ◌/◌, ◌<◌, Some, None, is_some, not, length, sym, ap, ◌∙◌, arith}
use Rattle.raw_pages.proofs.Tables.{none_in-absent, entry_in-there}
use Rattle.raw_pages.proofs.Searches.{in-leaf}
use Rattle.raw_pages.proofs.table.last_in_table.Goals as goal

pub returns-in-Some-last : goal.returns-in-Some-last
returns-in-Some-last c =
    let leaves = c.args.leaves.now in
    let at = c.leaf_of-at.result in
    let room : at < length leaves = omega (arith, c.leaf_of-at.ensures, c.requires.some, c.requires.one, c.requires.room) in
    in-leaf leaves c.args.mapped at c.args.first c.args.end c.place_of.result c.place_of-in-Some.result c.in-Some.leaf (Some c.in-Some-last.place)
    (λ number same. entry_in-there leaves at number c.index-leaves-at.result c.in-Some.leaf c.index-leaves-at.is c.in-Some.is room same)
    c.leaf_of-at.ensures c.requires.one c.requires.some c.place_of.ensures.place c.place_of-in-Some.ensures.place c.in-Some-last.ensures

pub returns-in-None-last : goal.returns-in-None-last
returns-in-None-last c =
    let leaves = c.args.leaves.now in
    let at = c.leaf_of-at.result in
    let room : at < length leaves = omega (arith, c.leaf_of-at.ensures, c.requires.some, c.requires.one, c.requires.room) in
    in-leaf leaves c.args.mapped at c.args.first c.args.end c.place_of.result c.place_of-in-Some.result c.in-Some.leaf None
    (λ number same. entry_in-there leaves at number c.index-leaves-at.result c.in-Some.leaf c.index-leaves-at.is c.in-Some.is room same)
    c.leaf_of-at.ensures c.requires.one c.requires.some c.place_of.ensures.place c.place_of-in-Some.ensures.place c.in-None-last.ensures

pub returns-in-None : goal.returns-in-None
returns-in-None c =
    let leaves = c.args.leaves.now in
    let at = c.leaf_of-at.result in
    let room : at < length leaves = omega (arith, c.leaf_of-at.ensures, c.requires.some, c.requires.one, c.requires.room) in
    λ number from below.
    let same : number / 1024 ≡ at = omega (arith, from, below, c.leaf_of-at.ensures, c.requires.one) in
    ap is_some (none_in-absent leaves at number c.index-leaves-at.result c.index-leaves-at.is c.in-None.is room same) ∙ sym (ap not c.if-mapped.true)

pub returns-in-None-2 : goal.returns-in-None-2
returns-in-None-2 c =
    let leaves = c.args.leaves.now in
    let at = c.leaf_of-at.result in
    let room : at < length leaves = omega (arith, c.leaf_of-at.ensures, c.requires.some, c.requires.one, c.requires.room) in
    let same : (c.args.end - 1) / 1024 ≡ at = omega (arith, c.leaf_of-at.ensures, c.requires.one) in (
      omega (arith, c.requires.some),
      omega (arith, c.requires.some),
      ap is_some (none_in-absent leaves at (c.args.end - 1) c.index-leaves-at.result c.index-leaves-at.is c.in-None.is room same) ∙ sym c.if-mapped.false,
      λ number above below. absurd (omega (arith, above, below)),
    )
