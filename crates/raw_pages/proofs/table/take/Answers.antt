use Rattle.std.proofs.Common.{None, IsSome, get_or, refl, sym, ap, subst, ◌∙◌}
use Rattle.std.proofs.lemmas.List.{set-get_or}
use Rattle.raw_pages.specs.inside.Tables.{entry_of}
use Rattle.raw_pages.proofs.Tables.{entry-found, entry-put, entry-left, some_after-set}
use Rattle.raw_pages.proofs.table.take.Goals as goal

pub returns-in-Some-clause-was : goal.returns-in-Some-clause-was
returns-in-Some-clause-was c =
    c.take.ensures.was ∙ sym (entry-found _ _ _ _ _ _ c.leaf_of.ensures c.place_of.ensures.place c.in-Some.is c.requires)

pub returns-in-Some-clause-now : goal.returns-in-Some-clause-now
returns-in-Some-clause-now c =
    entry-put _ _ _ _ _ _ _ _ c.leaf_of.ensures c.place_of.ensures.place c.in-Some.is c.requires c.take.ensures.whole c.take.ensures.now

pub returns-in-None-clause-was : goal.returns-in-None-clause-was
returns-in-None-clause-was c = sym (entry-found _ c.args.number _ _ _ None c.leaf_of.ensures refl c.in-None.is c.requires)

pub returns-in-None-clause-now : goal.returns-in-None-clause-now
returns-in-None-clause-now c =
    let missing = entry-found _ c.args.number _ _ _ None c.leaf_of.ensures refl c.in-None.is c.requires in
    λ q. ap (λ s. entry_of s q) (set-get_or c.args.leaves.now c.leaf_of.result c.index-leaves-leaf_of.result) ∙ entry-left _ c.args.number missing q

pub returns-in-Some-clause-tables : goal.returns-in-Some-clause-tables
returns-in-Some-clause-tables c = λ at there. some_after-set c.args.leaves.now c.leaf_of.result at c.take.new.self there

pub returns-in-None-clause-tables : goal.returns-in-None-clause-tables
returns-in-None-clause-tables c =
    λ at there. subst (λ s. IsSome (get_or s at None)) (sym (set-get_or c.args.leaves.now c.leaf_of.result c.index-leaves-leaf_of.result)) there
