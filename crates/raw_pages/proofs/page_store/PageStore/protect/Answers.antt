use Rattle.std.proofs.Common.{Option, Some, None, refl, sym, ◌≡◌, ◌∙◌, ℕ}
use Rattle.std.specs.FinMap.{get}
use Rattle.raw_pages.specs.Pages.{MappedPage, Pages, with_protection, pages_with_protection}
use Rattle.raw_pages.specs.inside.Tables.{changed}
use Rattle.raw_pages.proofs.Tables.{store-changed, view-changed}
use Rattle.raw_pages.proofs.page_store.PageStore.protect.Goals as goal

same : (pages : Pages) (n protection : ℕ) (o : Option MappedPage) → changed pages n o (λ p. with_protection p protection) ≡ pages_with_protection pages n o protection
same pages n protection None = refl
same pages n protection (Some page) = refl

pub invariant_of-self : goal.invariant_of-self
invariant_of-self c =
    store-changed c.self.inside.leaves.len c.self.inside.leaves.items c.as_mut_slice.result.now c.protect.new.leaves c.self.inside.mapped c.args.self.now c.self.invariant c.self.view_is (sym c.self.inside.leaves.ok.0) c.as_mut_slice.ensures.value c.protect.auto.leaves
    c.args.page (λ (p : MappedPage). with_protection p c.args.protection) c.protect.ensures

pub returns : goal.returns
returns c =
    view-changed c.self.inside.leaves.len c.self.inside.leaves.items c.as_mut_slice.result.now c.protect.new.leaves c.self.inside.mapped c.args.self.now c.self.invariant c.self.view_is (sym c.self.inside.leaves.ok.0) c.as_mut_slice.ensures.value c.protect.auto.leaves
    c.args.page (λ (p : MappedPage). with_protection p c.args.protection) c.protect.ensures
    ∙ same c.args.self.now c.args.page c.args.protection (get c.args.self.now c.args.page)
