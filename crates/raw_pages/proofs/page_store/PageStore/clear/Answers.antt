use Rattle.std.proofs.Common.{Option, Some, None, refl, sym, ◌≡◌, ◌∙◌, ℕ}
use Rattle.std.specs.FinMap.{get}
use Rattle.raw_pages.specs.Pages.{MappedPage, Pages, cleared_page, pages_cleared}
use Rattle.raw_pages.specs.inside.Tables.{changed}
use Rattle.raw_pages.proofs.Tables.{store-changed, view-changed}
use Rattle.raw_pages.proofs.page_store.PageStore.clear.Goals as goal

same : (pages : Pages) (n : ℕ) (o : Option MappedPage) → changed pages n o cleared_page ≡ pages_cleared pages n o
same pages n None = refl
same pages n (Some page) = refl

pub invariant_of-self : goal.invariant_of-self
invariant_of-self c =
    store-changed c.self.inside.leaves.len c.self.inside.leaves.items c.as_mut_slice.result.now c.clear.new.leaves c.self.inside.mapped c.args.self.now c.self.invariant c.self.view_is (sym c.self.inside.leaves.ok.0) c.as_mut_slice.ensures.value c.clear.auto.leaves
    c.args.page cleared_page c.clear.ensures

pub returns : goal.returns
returns c =
    view-changed c.self.inside.leaves.len c.self.inside.leaves.items c.as_mut_slice.result.now c.clear.new.leaves c.self.inside.mapped c.args.self.now c.self.invariant c.self.view_is (sym c.self.inside.leaves.ok.0) c.as_mut_slice.ensures.value c.clear.auto.leaves
    c.args.page cleared_page c.clear.ensures
    ∙ same c.args.self.now c.args.page (get c.args.self.now c.args.page)
