use Rattle.std.proofs.Common.{Option, Some, None, refl, ap, sym, true, false, ◌≡◌, ◌∙◌, ℕ, List}
use Rattle.std.specs.FinMap.{get}
use Rattle.raw_pages.specs.Pages.{MappedPage, Pages, with_piece, pages_with_piece, is_ready}
use Rattle.raw_pages.specs.inside.Tables.{changed}
use Rattle.raw_pages.proofs.Tables.{store-changed, view-changed, found-old}
use Rattle.raw_pages.proofs.page_store.PageStore.write.Goals as goal

same : (pages : Pages) (n at : ℕ) (bytes : List ℕ) (o : Option MappedPage) → changed pages n o (λ p. with_piece p at bytes) ≡ pages_with_piece pages n o at bytes
same pages n at bytes None = refl
same pages n at bytes (Some page) = refl

pub invariant_of-self-2 : goal.invariant_of-self-2
invariant_of-self-2 c =
    store-changed c.self.inside.leaves.len c.self.inside.leaves.items c.as_mut_slice.result.now c.write.new.leaves c.self.inside.mapped c.args.self.now c.self.invariant c.self.view_is (sym c.self.inside.leaves.ok.0) c.as_mut_slice.ensures.value c.write.auto.leaves
    c.args.page (λ (p : MappedPage). with_piece p c.args.at c.args.bytes.now) c.in_ok-write.ensures.ok

pub returns-clause-ok : goal.returns-clause-ok
returns-clause-ok c =
    view-changed c.self.inside.leaves.len c.self.inside.leaves.items c.as_mut_slice.result.now c.write.new.leaves c.self.inside.mapped c.args.self.now c.self.invariant c.self.view_is (sym c.self.inside.leaves.ok.0) c.as_mut_slice.ensures.value c.write.auto.leaves
    c.args.page (λ (p : MappedPage). with_piece p c.args.at c.args.bytes.now) c.in_ok-write.ensures.ok
    ∙ same c.args.self.now c.args.page c.args.at c.args.bytes.now (get c.args.self.now c.args.page)

pub returns-in_err-write-clause-ready : goal.returns-in_err-write-clause-ready
returns-in_err-write-clause-ready c =
    λ ready.
    let failed : false ≡ true = c.in_err-write.ensures.ready (ap is_ready (sym (found-old c.self.inside.leaves.items c.as_mut_slice.result.now c.args.self.now c.self.invariant.whole c.self.view_is c.as_mut_slice.ensures.value c.args.page)) ∙ ready) in
    absurd (cc)
