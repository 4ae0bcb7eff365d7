use Rattle.std.proofs.Common.{◌≡◌, true, false, None, refl, sym, ap, ◌∙◌}
use Rattle.raw_pages.specs.Pages.{MappedPage, with_piece, is_ready}
use Rattle.raw_pages.proofs.Tables.{entry-found, entry-changed, entry-not_changed}
use Rattle.raw_pages.proofs.table.write.Goals as goal

pub returns-in_ok-write-in-Some-clause-ok : goal.returns-in_ok-write-in-Some-clause-ok
returns-in_ok-write-in-Some-clause-ok c =
    entry-changed _ _ _ _ _ _ _ (λ (p : MappedPage). with_piece p c.args.at c.args.bytes.now)
    c.leaf_of.ensures c.place_of.ensures.place c.in-Some.is c.requires.room
    c.in_ok-write-in-Some.ensures.whole c.in_ok-write-in-Some.ensures.ok

pub returns-in_err-write-in-Some-clause-ready : goal.returns-in_err-write-in-Some-clause-ready
returns-in_err-write-in-Some-clause-ready c =
    let found = entry-found _ _ _ _ _ _ c.leaf_of.ensures c.place_of.ensures.place c.in-Some.is c.requires.room in
    λ ready. let failed : false ≡ true = c.in_err-write-in-Some.ensures.ready (ap is_ready (sym found) ∙ ready) in absurd (cc)

pub returns-in-None-clause-ok : goal.returns-in-None-clause-ok
returns-in-None-clause-ok c =
    let missing = entry-found _ c.args.number _ _ _ None c.leaf_of.ensures refl c.in-None.is c.requires.room in
    entry-not_changed _ c.args.number _ _ (λ (p : MappedPage). with_piece p c.args.at c.args.bytes.now) missing
