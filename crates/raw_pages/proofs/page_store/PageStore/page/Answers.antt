use Rattle.std.proofs.Common.{ap, sym, ◌∙◌}
use Rattle.std.specs.FinMap.{get}
use Rattle.raw_pages.specs.inside.Tables.{entry_of}
use Rattle.raw_pages.proofs.Tables.{get-map_of, get-map_of_past}
use Rattle.raw_pages.proofs.page_store.PageStore.page.Goals as goal

pub returns-then-page-ge-NUMBERS : goal.returns-then-page-ge-NUMBERS
returns-then-page-ge-NUMBERS c =
    sym (get-map_of_past c.self.inside.leaves.items c.args.page c.if-page-ge-NUMBERS.true) ∙ ap (λ m. get m c.args.page) c.self.view_is

pub returns : goal.returns
returns c =
    c.page.ensures
    ∙ ap (λ s. entry_of s c.args.page) c.as_slice-leaves.ensures.value
    ∙ sym (get-map_of c.self.inside.leaves.items c.self.invariant.whole c.args.page)
    ∙ ap (λ m. get m c.args.page) c.self.view_is
