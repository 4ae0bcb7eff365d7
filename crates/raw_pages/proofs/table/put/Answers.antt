use Rattle.std.proofs.Common.{sym, ◌∙◌}
use Rattle.raw_pages.proofs.Tables.{entry-found, entry-put}
use Rattle.raw_pages.proofs.table.put.Goals as goal

pub returns-in-Some-clause-was : goal.returns-in-Some-clause-was
returns-in-Some-clause-was c =
    c.put.ensures.was
    ∙ sym (entry-found _ _ _ _ _ _ c.leaf_of.ensures c.place_of.ensures.place c.in-Some.is c.requires.room)

pub returns-in-Some-clause-now : goal.returns-in-Some-clause-now
returns-in-Some-clause-now c =
    entry-put _ _ _ _ _ _ _ _ c.leaf_of.ensures c.place_of.ensures.place c.in-Some.is c.requires.room c.put.ensures.whole c.put.ensures.now
