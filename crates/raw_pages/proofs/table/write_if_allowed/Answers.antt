use Rattle.std.proofs.Common.{None, Ok, Err, refl, sym, ap, subst, ◌∙◌}
use Rattle.std.proofs.lemmas.Result.{err_from_is_err_and}
use Rattle.raw_pages.specs.Pages.{MappedPage, with_piece, IsWriteAnswer}
use Rattle.raw_pages.proofs.Tables.{entry-found, entry-changed}
use Rattle.raw_pages.specs.declared.write_error.WriteError.TheVariants.{Absent}
use Rattle.raw_pages.proofs.table.write_if_allowed.Goals as goal

pub returns-in_err-write_if_allowed-in-Some-clause-answer : goal.returns-in_err-write_if_allowed-in-Some-clause-answer
returns-in_err-write_if_allowed-in-Some-clause-answer c =
    let found = entry-found _ _ _ _ _ _ c.leaf_of.ensures c.place_of.ensures.place c.in-Some.is c.requires.room in
    let p = err_from_is_err_and c.from_residual.result c.from_residual.ensures.1 in
    subst (λ o. IsWriteAnswer o c.from_residual.result) (sym found)
    (subst (IsWriteAnswer _) (sym (p.1 ∙ ap Err p.2)) c.in_err-write_if_allowed-in-Some.ensures.answer)

pub returns-in-None-clause-answer : goal.returns-in-None-clause-answer
returns-in-None-clause-answer c =
    let missing = entry-found _ c.args.number _ _ _ None c.leaf_of.ensures refl c.in-None.is c.requires.room in
    subst (λ o. IsWriteAnswer o (Err Absent)) (sym missing) refl

pub returns-clause-ok : goal.returns-clause-ok
returns-clause-ok c =
    entry-changed _ _ _ _ _ _ _ (λ (p : MappedPage). with_piece p c.args.at c.args.bytes.now)
    c.leaf_of.ensures c.place_of.ensures.place c.in-Some.is c.requires.room
    c.in_ok-write_if_allowed-in-Some.ensures.whole c.in_ok-write_if_allowed-in-Some.ensures.ok

pub returns-clause-answer : goal.returns-clause-answer
returns-clause-answer c =
    let found = entry-found _ _ _ _ _ _ c.leaf_of.ensures c.place_of.ensures.place c.in-Some.is c.requires.room in
    subst (λ o. IsWriteAnswer o (Ok tt)) (sym found) c.in_ok-write_if_allowed-in-Some.ensures.answer
