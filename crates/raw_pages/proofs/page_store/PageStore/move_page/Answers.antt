use Rattle.std.proofs.Common.{◌≡◌, ℕ, Option, Some, None, refl, sym, ◌∙◌}
use Rattle.std.specs.FinMap.{get}
use Rattle.raw_pages.specs.Pages.{MappedPage, Pages, pages_moved}
use Rattle.raw_pages.specs.inside.Tables.{moved}
use Rattle.raw_pages.proofs.Tables.{store-moved, view-moved}
use Rattle.raw_pages.proofs.page_store.PageStore.move_page.Goals as goal

same : (pages : Pages) (from to : ℕ) (o : Option MappedPage) → moved pages from to o ≡ pages_moved pages from to o
same pages from to None = refl
same pages from to (Some page) = refl

pub invariant_of-self-2 : goal.invariant_of-self-2
invariant_of-self-2 c =
    store-moved c.self.inside.leaves.len c.self.inside.leaves.items c.as_mut_slice.result.now c.move_page.new.leaves c.self.inside.mapped c.args.self.now c.self.invariant c.self.view_is (sym c.self.inside.leaves.ok.0) c.as_mut_slice.ensures.value c.move_page.auto.leaves
    c.args.from c.args.to c.in_ok-move_page.ensures.ok c.requires.free

pub returns-clause-ok : goal.returns-clause-ok
returns-clause-ok c =
    view-moved c.self.inside.leaves.len c.self.inside.leaves.items c.as_mut_slice.result.now c.move_page.new.leaves c.self.inside.mapped c.args.self.now c.self.invariant c.self.view_is (sym c.self.inside.leaves.ok.0) c.as_mut_slice.ensures.value c.move_page.auto.leaves
    c.args.from c.args.to c.in_ok-move_page.ensures.ok c.requires.free
    ∙ same c.args.self.now c.args.from c.args.to (get c.args.self.now c.args.from)
