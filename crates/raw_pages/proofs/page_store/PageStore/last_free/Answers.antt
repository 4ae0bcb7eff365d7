use Rattle.raw_pages.proofs.Searches.{last-free}
use Rattle.raw_pages.proofs.page_store.PageStore.last_free.Goals as goal

pub returns : goal.returns
returns c =
    last-free c.self.inside.leaves.items c.as_slice.result.now c.args.self.now c.self.invariant.whole c.self.view_is c.as_slice.ensures.value c.args.first c.args.end c.last.result c.last.ensures
