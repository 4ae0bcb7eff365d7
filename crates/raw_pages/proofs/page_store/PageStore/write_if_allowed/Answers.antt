use Rattle.std.proofs.Common.{Option, Some, None, Ok, Err, refl, ap, sym, subst, ◌≡◌, ◌∙◌, ℕ, List}
use Rattle.std.proofs.lemmas.Result.{err_from_is_err_and}
use Rattle.std.specs.FinMap.{get}
use Rattle.raw_pages.specs.Pages.{MappedPage, Pages, with_piece, pages_with_piece, IsWriteAnswer}
use Rattle.raw_pages.specs.inside.Tables.{changed}
use Rattle.raw_pages.proofs.Tables.{store-changed, view-changed, found-old}
use Rattle.raw_pages.proofs.page_store.PageStore.write_if_allowed.Goals as goal

same : (pages : Pages) (n at : ℕ) (bytes : List ℕ) (o : Option MappedPage) → changed pages n o (λ p. with_piece p at bytes) ≡ pages_with_piece pages n o at bytes
same pages n at bytes None = refl
same pages n at bytes (Some page) = refl

pub invariant_of-self-2 : goal.invariant_of-self-2
invariant_of-self-2 c =
    store-changed c.self.inside.leaves.len c.self.inside.leaves.items c.as_mut_slice.result.now c.write_if_allowed.new.leaves c.self.inside.mapped c.args.self.now c.self.invariant c.self.view_is (sym c.self.inside.leaves.ok.0) c.as_mut_slice.ensures.value c.write_if_allowed.auto.leaves
    c.args.page (λ (p : MappedPage). with_piece p c.args.at c.args.bytes.now) c.in_ok-write_if_allowed.ensures.ok

pub returns-clause-ok : goal.returns-clause-ok
returns-clause-ok c =
    view-changed c.self.inside.leaves.len c.self.inside.leaves.items c.as_mut_slice.result.now c.write_if_allowed.new.leaves c.self.inside.mapped c.args.self.now c.self.invariant c.self.view_is (sym c.self.inside.leaves.ok.0) c.as_mut_slice.ensures.value c.write_if_allowed.auto.leaves
    c.args.page (λ (p : MappedPage). with_piece p c.args.at c.args.bytes.now) c.in_ok-write_if_allowed.ensures.ok
    ∙ same c.args.self.now c.args.page c.args.at c.args.bytes.now (get c.args.self.now c.args.page)

pub returns-clause-answer : goal.returns-clause-answer
returns-clause-answer c =
    let found = found-old c.self.inside.leaves.items c.as_mut_slice.result.now c.args.self.now c.self.invariant.whole c.self.view_is c.as_mut_slice.ensures.value c.args.page in
    subst (λ o. IsWriteAnswer o (Ok tt)) (sym found) c.in_ok-write_if_allowed.ensures.answer

pub returns-in_err-write_if_allowed-clause-answer : goal.returns-in_err-write_if_allowed-clause-answer
returns-in_err-write_if_allowed-clause-answer c =
    let found = found-old c.self.inside.leaves.items c.as_mut_slice.result.now c.args.self.now c.self.invariant.whole c.self.view_is c.as_mut_slice.ensures.value c.args.page in
    let p = err_from_is_err_and c.from_residual.result c.from_residual.ensures.1 in
    subst (λ o. IsWriteAnswer o c.from_residual.result) (sym found)
    (subst (IsWriteAnswer _) (sym (p.1 ∙ ap Err p.2)) c.in_err-write_if_allowed.ensures.answer)
