use Rattle.std.proofs.Common.{None, refl, sym, ◌∙◌}
use Rattle.raw_pages.proofs.Tables.{entry-found}
use Rattle.raw_pages.proofs.table.page.Goals as goal

pub returns-in-Some : goal.returns-in-Some
returns-in-Some c =
    c.page.ensures ∙ sym (entry-found _ _ _ _ _ _ c.leaf_of.ensures c.place_of.ensures.place (sym c.index-leaves-leaf_of.is ∙ c.in-Some.is) c.requires)

pub returns-in-None : goal.returns-in-None
returns-in-None c =
    sym (entry-found _ c.args.number _ _ _ None c.leaf_of.ensures refl (sym c.index-leaves-leaf_of.is ∙ c.in-None.is) c.requires)
