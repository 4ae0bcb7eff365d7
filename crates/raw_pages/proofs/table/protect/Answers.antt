use Rattle.std.proofs.Common.{None, refl}
use Rattle.raw_pages.specs.Pages.{MappedPage, with_protection}
use Rattle.raw_pages.proofs.Tables.{entry-found, entry-changed, entry-not_changed}
use Rattle.raw_pages.proofs.table.protect.Goals as goal

pub returns-in-Some : goal.returns-in-Some
returns-in-Some c =
    entry-changed _ _ _ _ _ _ _ (λ (p : MappedPage). with_protection p c.args.protection)
    c.leaf_of.ensures c.place_of.ensures.place c.in-Some.is c.requires c.protect.ensures.whole c.protect.ensures.now

pub returns-in_default : goal.returns-in_default
returns-in_default c =
    let missing = entry-found _ c.args.number _ _ _ None c.leaf_of.ensures refl c.in_default.is c.requires in
    entry-not_changed _ c.args.number _ _ (λ (p : MappedPage). with_protection p c.args.protection) missing
